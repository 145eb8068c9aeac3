use Rattle.om_svg.specs.steps.Marks.{flush_start}
use Rattle.om_svg.proofs.shape_text.push_flush_start.Goals as goal

pub returns : goal.returns
unfolding flush_start
returns c = c.write.ensures.bytes
