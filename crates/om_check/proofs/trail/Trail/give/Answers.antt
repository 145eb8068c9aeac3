use Rattle.std.proofs.Common.{sym, subst}
use Rattle.om_world.specs.declared.event.Event.{Event}
use Rattle.om_check.specs.steps.Playing.{WasPlayed}
use Rattle.om_check.proofs.Stuck.{one_event, received_known}
use Rattle.om_check.proofs.trail.Trail.give.Goals as goal

pub returns-clause-run : goal.returns-clause-run
returns-clause-run c =
    one_event _ _ _ _ _ _ c.in_ok-try_reserve.ensures.items c.push_reserved.ensures.items c.in_ok-give.ensures.way
    (subst (λ k. WasPlayed c.args.self.now.stage.world (Event.Give k c.args.frame) c.give.new.world) (sym c.index-process.ensures.place) c.in_ok-give.ensures.played)

pub returns-clause-live : goal.returns-clause-live
returns-clause-live c = received_known _ _ _ c.in_ok-give.ensures.way c.in_ok-give.ensures.live
