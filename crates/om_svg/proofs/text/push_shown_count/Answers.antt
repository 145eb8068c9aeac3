use Rattle.om_svg.specs.steps.Sheets.{shown_count}
use Rattle.om_svg.proofs.text.push_shown_count.Goals as goal

pub returns : goal.returns
unfolding shown_count
returns c = c.write.ensures.bytes
