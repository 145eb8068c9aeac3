use Rattle.om_svg.specs.steps.Marks.{path_middle}
use Rattle.om_svg.proofs.shape_text.push_path_middle.Goals as goal

pub returns : goal.returns
unfolding path_middle
returns c = c.write.ensures.bytes
