use Rattle.om_svg.specs.steps.Marks.{path_start}
use Rattle.om_svg.proofs.shape_text.push_path_start.Goals as goal

pub returns : goal.returns
unfolding path_start
returns c = c.write.ensures.bytes
