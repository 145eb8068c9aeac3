use Rattle.om_check.proofs.Stuck.{stuck_run}
use Rattle.om_check.proofs.laws.stuck_run.Goals as goal

pub returns : goal.returns
returns c = stuck_run
