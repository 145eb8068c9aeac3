use Rattle.om_svg.specs.steps.Marks.{circle_y}
use Rattle.om_svg.proofs.shape_text.push_circle_y.Goals as goal

pub returns : goal.returns
unfolding circle_y
returns c = c.write.ensures.bytes
