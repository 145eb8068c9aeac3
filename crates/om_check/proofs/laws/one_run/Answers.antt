use Rattle.om_check.proofs.OneRun.{one_run}
use Rattle.om_check.proofs.laws.one_run.Goals as goal

pub returns : goal.returns
returns c = one_run
