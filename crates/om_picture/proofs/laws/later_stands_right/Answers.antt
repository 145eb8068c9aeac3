use Rattle.om_picture.proofs.PlaceLaws.{later_right}
use Rattle.om_picture.proofs.laws.later_stands_right.Goals as goal

pub returns : goal.returns
returns c = later_right
