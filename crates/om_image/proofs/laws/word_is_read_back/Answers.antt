use Rattle.om_image.proofs.Digits.{word_read_back}
use Rattle.om_image.proofs.laws.word_is_read_back.Goals as goal

pub returns : goal.returns
returns c = word_read_back
