use Rattle.om_svg.specs.steps.Marks.{band_width}
use Rattle.om_svg.proofs.shape_text.push_band_width.Goals as goal

pub returns : goal.returns
unfolding band_width
returns c = c.write.ensures.bytes
