use Rattle.om_svg.proofs.PlainLemmas.{plain-recovery}
use Rattle.om_svg.proofs.laws.states_are_plain.Goals as goal

pub returns : goal.returns
returns c = plain-recovery
