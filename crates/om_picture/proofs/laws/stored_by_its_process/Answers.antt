use Rattle.om_picture.proofs.FateLaws.{saved_where}
use Rattle.om_picture.proofs.laws.stored_by_its_process.Goals as goal

pub returns : goal.returns
returns c = saved_where
