use Rattle.om_svg.specs.steps.Marks.{turning_end}
use Rattle.om_svg.proofs.shape_text.push_turning_end.Goals as goal

pub returns : goal.returns
unfolding turning_end
returns c = c.write.ensures.bytes
