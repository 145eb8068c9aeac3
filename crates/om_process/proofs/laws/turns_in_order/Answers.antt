use Rattle.om_process.proofs.Runs.{turns_between}
use Rattle.om_process.proofs.laws.turns_in_order.Goals as goal

pub returns : goal.returns
returns c = turns_between
