use Rattle.om_svg.specs.steps.Marks.{circle_x}
use Rattle.om_svg.proofs.shape_text.push_circle_x.Goals as goal

pub returns : goal.returns
unfolding circle_x
returns c = c.write.ensures.bytes
