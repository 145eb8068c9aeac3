use Rattle.om_svg.specs.steps.Sheets.{ground_width}
use Rattle.om_svg.proofs.text.push_ground_width.Goals as goal

pub returns : goal.returns
unfolding ground_width
returns c = c.write.ensures.bytes
