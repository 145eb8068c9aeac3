use Rattle.om_check.proofs.Stuck.{goes_far}
use Rattle.om_check.proofs.exploring.deliver_to_end.Goals as goal

pub returns : goal.returns
returns C c = goes_far _ _ _ _ _ _ c.in_ok-deliver_all.ensures c.in_ok-release_all.ensures.run
