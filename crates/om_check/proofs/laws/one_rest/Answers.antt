use Rattle.om_check.proofs.OneRun.{one_rest_of}
use Rattle.om_check.proofs.laws.one_rest.Goals as goal

pub returns : goal.returns
returns c = one_rest_of
