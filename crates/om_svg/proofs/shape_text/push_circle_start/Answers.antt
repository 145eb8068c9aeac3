use Rattle.om_svg.specs.steps.Marks.{circle_start}
use Rattle.om_svg.proofs.shape_text.push_circle_start.Goals as goal

pub returns : goal.returns
unfolding circle_start
returns c = c.write.ensures.bytes
