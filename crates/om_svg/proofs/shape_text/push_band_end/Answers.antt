use Rattle.om_svg.specs.steps.Marks.{band_end}
use Rattle.om_svg.proofs.shape_text.push_band_end.Goals as goal

pub returns : goal.returns
unfolding band_end
returns c = c.write.ensures.bytes
