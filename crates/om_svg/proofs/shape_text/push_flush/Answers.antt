use Rattle.std.proofs.Common.{arith, rules}
use Rattle.std.proofs.lemmas.Grind.{common_steps}
use Rattle.om_svg.specs.steps.Marks.{flush_parts}
use Rattle.om_svg.proofs.Pieces.{flush_is}
use Rattle.om_svg.proofs.shape_text.push_flush.Goals as goal

pub returns : goal.returns
unfolding flush_parts
returns c = rw flush_is (first_of (search rules, grind (arith, common_steps)))
