use Rattle.om_svg.specs.steps.Sheets.{svg_height}
use Rattle.om_svg.proofs.text.push_svg_height.Goals as goal

pub returns : goal.returns
unfolding svg_height
returns c = c.write.ensures.bytes
