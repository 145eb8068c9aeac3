use Rattle.om_svg.proofs.PlainLemmas.{plain-content}
use Rattle.om_svg.proofs.laws.words_are_plain.Goals as goal

pub returns : goal.returns
returns c = plain-content
