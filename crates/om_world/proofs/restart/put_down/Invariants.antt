use Rattle.std.proofs.Common.{◌≡◌}
use Rattle.om_world.specs.steps.Members.{downed}
use Rattle.om_world.proofs.Downing.{first_by}
use Rattle.om_world.proofs.restart.put_down.Given as goal

abbrev pub invariant-loop-p : goal.invariant-loop-p
invariant-loop-p g l = l.members.items ≡ first_by downed l.p l.fn.members.items
