use Rattle.std.proofs.Common.{◌≡◌, ◌≤◌, ◌-◌, ◌++◌, ℕ, List}
use Rattle.om_process.specs.Core.{cluster_size, with_now}
use Rattle.om_look.specs.Trace.{IsTrace}
use Rattle.om_look.proofs.tracing.trace.Given as goal

-- the lines so far
abbrev pub invariant-loop-steps : goal.invariant-loop-steps
invariant-loop-steps l = record {
  within : l.steps ≤ l.fuel;
  traced : (lines : List ℕ) × IsTrace l.fn.core.own (cluster_size l.fn.core.now) l.steps l.fn.core.now l.core.now lines × (l.text.items ≡ l.fn.text.items ++ lines);
  rest : l.core ≡ with_now l.fn.core l.core.now;
  size : cluster_size l.core.now ≡ cluster_size l.fn.core.now;
}

abbrev pub decreases-loop-steps : goal.decreases-loop-steps
decreases-loop-steps l = l.fuel - l.steps
