use Rattle.std.proofs.Common.{◌≡◌}
use Rattle.om_world.specs.steps.Stopping.{halted}
use Rattle.om_world.proofs.Downing.{first_by}
use Rattle.om_world.proofs.stopping.end_all.Given as goal

abbrev pub invariant-loop-p : goal.invariant-loop-p
invariant-loop-p g l = l.members.items ≡ first_by halted l.p l.fn.members.items
