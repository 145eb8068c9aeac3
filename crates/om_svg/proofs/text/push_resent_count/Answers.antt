use Rattle.om_svg.specs.steps.Sheets.{resent_count}
use Rattle.om_svg.proofs.text.push_resent_count.Goals as goal

pub returns : goal.returns
unfolding resent_count
returns c = c.write.ensures.bytes
