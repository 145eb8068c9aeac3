use Rattle.om_svg.specs.steps.Marks.{flush_end}
use Rattle.om_svg.proofs.shape_text.push_flush_end.Goals as goal

pub returns : goal.returns
unfolding flush_end
returns c = c.write.ensures.bytes
