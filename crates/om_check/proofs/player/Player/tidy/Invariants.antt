use Rattle.om_check.specs.steps.Playing.{StaysUnderWay}
use Rattle.om_check.proofs.player.Player.tidy.Given as goal

abbrev pub invariant-loop-p : goal.invariant-loop-p
invariant-loop-p l = StaysUnderWay l.fn.self.stage.world l.self.stage.world

abbrev pub invariant-loop-p-2 : goal.invariant-loop-p-2
invariant-loop-p-2 l = StaysUnderWay l.fn.self.stage.world l.self.stage.world
