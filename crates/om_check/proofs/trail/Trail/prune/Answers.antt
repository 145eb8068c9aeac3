use Rattle.om_check.proofs.Stuck.{live_known, one_event}
use Rattle.om_check.proofs.trail.Trail.prune.Goals as goal

pub returns-clause-run : goal.returns-clause-run
returns-clause-run c =
    one_event _ _ _ _ _ _ c.in_ok-try_reserve.ensures.items c.push_reserved.ensures.items c.in_ok-prune.ensures.way c.in_ok-prune.ensures.played

pub returns-clause-live : goal.returns-clause-live
returns-clause-live c = live_known _ _ c.in_ok-prune.ensures.way c.in_ok-prune.ensures.live
