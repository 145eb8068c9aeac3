use Rattle.om_svg.specs.steps.Marks.{square_class}
use Rattle.om_svg.proofs.shape_text.push_square_class.Goals as goal

pub returns : goal.returns
unfolding square_class
returns c = c.write.ensures.bytes
