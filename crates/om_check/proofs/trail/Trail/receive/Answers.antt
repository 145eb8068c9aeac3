use Rattle.om_check.proofs.Stuck.{received_from_it}
use Rattle.om_check.proofs.trail.Trail.receive.Goals as goal

pub returns-clause-live : goal.returns-clause-live
returns-clause-live c =
    received_from_it c.args.self.now.stage.world c.give.new.self.stage.world c.in-Some.frame c.args.from c.args.to c.in_ok-give.ensures.live c.in_ok-is_of.ensures
