use Rattle.om_check.proofs.Stuck.{goes_far}
use Rattle.om_check.proofs.exploring.deliver_all.Goals as goal

pub loop-preserved : goal.loop-preserved
loop-preserved g c = goes_far _ _ _ _ _ _ c.loop.invariant c.in_ok-deliver.ensures.run
