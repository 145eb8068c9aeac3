use Rattle.om_svg.specs.steps.Marks.{circle_end}
use Rattle.om_svg.proofs.shape_text.push_circle_end.Goals as goal

pub returns : goal.returns
unfolding circle_end
returns c = c.write.ensures.bytes
