use Rattle.om_picture.proofs.HeldLaws.{released_were_held}
use Rattle.om_picture.proofs.laws.released_were_held.Goals as goal

pub returns : goal.returns
returns c = released_were_held
