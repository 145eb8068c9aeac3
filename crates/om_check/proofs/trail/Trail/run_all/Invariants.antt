use Rattle.om_check.specs.steps.Playing.{KeepsLive, StaysARun}
use Rattle.om_check.proofs.trail.Trail.run_all.Given as goal

abbrev pub invariant-loop-p : goal.invariant-loop-p
invariant-loop-p l = record {
  run : StaysARun l.fn.self.events.items l.fn.self.stage.world l.self.events.items l.self.stage.world;
  live : KeepsLive l.fn.self.stage.world l.self.stage.world;
}
