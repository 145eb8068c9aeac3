use Rattle.om_check.proofs.Stuck.{same_end}
use Rattle.om_check.proofs.trail.Trail.trim.Goals as goal

pub returns-clause-run : goal.returns-clause-run
returns-clause-run c = same_end _ _ _ _ _ c.in_ok-drop_kept.ensures.run c.in_ok-number.ensures
