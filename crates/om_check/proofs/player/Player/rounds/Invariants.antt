use Rattle.om_check.specs.steps.Playing.{StaysUnderWay}
use Rattle.om_check.proofs.player.Player.rounds.Given as goal

abbrev pub invariant-loop : goal.invariant-loop
invariant-loop l = StaysUnderWay l.fn.self.stage.world l.self.stage.world
