use Rattle.om_check.proofs.Stuck.{delivered_stays, goes_far}
use Rattle.om_check.proofs.trail.Trail.deliver.Goals as goal

pub returns-clause-run : goal.returns-clause-run
returns-clause-run c =
    goes_far _ _ _ _ _ _ (goes_far _ _ _ _ _ _ c.in_ok-receive.ensures.run c.in_ok-run.ensures.run) c.in_ok-tidy_in_time.ensures.run

pub returns-clause-live : goal.returns-clause-live
returns-clause-live c =
    delivered_stays _ _ c.args.self.now.stage.world c.run.new.self.stage.world c.tidy_in_time.new.self.stage.world c.args.from c.args.to
    (goes_far _ _ _ _ _ _ c.in_ok-receive.ensures.run c.in_ok-run.ensures.run)
    (delivered_stays _ _ c.args.self.now.stage.world c.receive.new.self.stage.world c.run.new.self.stage.world c.args.from c.args.to
    c.in_ok-receive.ensures.run c.in_ok-receive.ensures.live c.in_ok-run.ensures.live) c.in_ok-tidy_in_time.ensures.live
