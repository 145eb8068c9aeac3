use Rattle.om_image.proofs.Digits.{words_read_back}
use Rattle.om_image.proofs.laws.words_are_read_back.Goals as goal

pub returns : goal.returns
returns c = words_read_back
