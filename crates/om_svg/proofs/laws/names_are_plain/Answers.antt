use Rattle.om_svg.proofs.PlainLemmas.{plain-name}
use Rattle.om_svg.proofs.laws.names_are_plain.Goals as goal

pub returns : goal.returns
returns c = plain-name
