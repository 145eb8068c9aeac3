use Rattle.om_svg.specs.steps.Marks.{turning_start}
use Rattle.om_svg.proofs.shape_text.push_turning_start.Goals as goal

pub returns : goal.returns
unfolding turning_start
returns c = c.write.ensures.bytes
