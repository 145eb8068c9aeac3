use Rattle.om_svg.specs.steps.Sheets.{ground_height}
use Rattle.om_svg.proofs.text.push_ground_height.Goals as goal

pub returns : goal.returns
unfolding ground_height
returns c = c.write.ensures.bytes
