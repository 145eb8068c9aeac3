use Rattle.std.proofs.Common.{ℕ, ◌<◌}
use Rattle.om_check.specs.steps.Walks.{IsPassed}
use Rattle.om_check.proofs.next.next_delivery.Given as goal

abbrev pub invariant-loop-p : goal.invariant-loop-p
invariant-loop-p l = (p : ℕ) → p < l.p → IsPassed l.world l.walk l.n p
