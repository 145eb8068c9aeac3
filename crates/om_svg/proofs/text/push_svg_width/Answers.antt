use Rattle.om_svg.specs.steps.Sheets.{svg_width}
use Rattle.om_svg.proofs.text.push_svg_width.Goals as goal

pub returns : goal.returns
unfolding svg_width
returns c = c.write.ensures.bytes
