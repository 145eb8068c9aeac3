use Rattle.om_check.proofs.Ending.{whole_run}
use Rattle.om_check.proofs.laws.whole_run.Goals as goal

pub returns : goal.returns
returns c = whole_run
