use Rattle.om_check.proofs.Stuck.{goes_far, live_stays}
use Rattle.om_check.proofs.trail.Trail.tidy.Goals as goal

pub returns-clause-run : goal.returns-clause-run
returns-clause-run c =
    goes_far _ _ _ _ _ _ (goes_far _ _ _ _ _ _ c.in_ok-store_all.ensures.run c.in_ok-prune.ensures.run) c.in_ok-trim_all.ensures.run

pub returns-clause-live : goal.returns-clause-live
returns-clause-live c =
    live_stays _ _ c.args.self.now.stage.world c.prune.new.self.stage.world c.trim_all.new.self.stage.world
    (goes_far _ _ _ _ _ _ c.in_ok-store_all.ensures.run c.in_ok-prune.ensures.run)
    (live_stays _ _ c.args.self.now.stage.world c.store_all.new.self.stage.world c.prune.new.self.stage.world c.in_ok-store_all.ensures.run
    c.in_ok-store_all.ensures.live c.in_ok-prune.ensures.live) c.in_ok-trim_all.ensures.live
