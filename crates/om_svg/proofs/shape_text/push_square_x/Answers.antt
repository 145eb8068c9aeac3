use Rattle.om_svg.specs.steps.Marks.{square_x}
use Rattle.om_svg.proofs.shape_text.push_square_x.Goals as goal

pub returns : goal.returns
unfolding square_x
returns c = c.write.ensures.bytes
