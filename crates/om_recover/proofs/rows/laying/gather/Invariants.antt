use Rattle.std.proofs.Common.{◌-◌, ◌^◌}
use Rattle.om_recover.specs.steps.Logs.{AreSame}
use Rattle.om_recover.proofs.rows.laying.gather.Given as goal

abbrev pub invariant-loop-next : goal.invariant-loop-next
invariant-loop-next l = record { same : AreSame l.fn.logs l.logs }

abbrev pub decreases-loop-next : goal.decreases-loop-next
decreases-loop-next l = 2 ^ 32 - l.last
