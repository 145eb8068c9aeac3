use Rattle.om_svg.proofs.PlainLemmas.{plain-told}
use Rattle.om_svg.proofs.laws.titles_are_plain.Goals as goal

pub returns : goal.returns
returns c = plain-told
