use Rattle.om_svg.specs.steps.Marks.{path_tail}
use Rattle.om_svg.proofs.shape_text.push_path_tail.Goals as goal

pub returns : goal.returns
unfolding path_tail
returns c = c.write.ensures.bytes
