use Rattle.om_svg.specs.steps.Marks.{square_end}
use Rattle.om_svg.proofs.shape_text.push_square_end.Goals as goal

pub returns : goal.returns
unfolding square_end
returns c = c.write.ensures.bytes
