use Rattle.om_picture.proofs.FateLaws.{cut_where}
use Rattle.om_picture.proofs.laws.cut_by_a_round.Goals as goal

pub returns : goal.returns
returns c = cut_where
