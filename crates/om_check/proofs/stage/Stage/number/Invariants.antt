use Rattle.std.proofs.Common.{◌≡◌}
use Rattle.om_check.proofs.stage.Stage.number.Given as goal

abbrev pub invariant-loop-to : goal.invariant-loop-to
invariant-loop-to l = l.self.world ≡ l.fn.self.world
