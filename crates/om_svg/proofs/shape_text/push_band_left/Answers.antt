use Rattle.om_svg.specs.steps.Marks.{band_left}
use Rattle.om_svg.proofs.shape_text.push_band_left.Goals as goal

pub returns : goal.returns
unfolding band_left
returns c = c.write.ensures.bytes
