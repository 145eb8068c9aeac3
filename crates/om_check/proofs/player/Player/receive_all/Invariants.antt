use Rattle.om_check.specs.steps.Playing.{StaysUnderWay}
use Rattle.om_check.proofs.player.Player.receive_all.Given as goal

abbrev pub invariant-loop-k : goal.invariant-loop-k
invariant-loop-k l = StaysUnderWay l.fn.self.stage.world l.self.stage.world
