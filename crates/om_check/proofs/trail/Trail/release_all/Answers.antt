use Rattle.om_check.proofs.Stuck.{goes_far, live_stays}
use Rattle.om_check.proofs.trail.Trail.release_all.Goals as goal

pub loop-p-preserved : goal.loop-p-preserved
loop-p-preserved c = record {
  run = goes_far _ _ _ _ _ _ c.loop-p.invariant.run c.in_ok-release.ensures.run;
  live = live_stays _ _ c.args.self.now.stage.world c.loop-p.self.stage.world c.release.new.self.stage.world c.loop-p.invariant.run
      c.loop-p.invariant.live c.in_ok-release.ensures.live;
}
