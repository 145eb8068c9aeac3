use Rattle.std.proofs.Common.{arith, rules}
use Rattle.std.proofs.lemmas.Grind.{common_steps}
use Rattle.om_svg.specs.steps.Marks.{crossing_parts}
use Rattle.om_svg.proofs.Pieces.{crossing_is}
use Rattle.om_svg.proofs.shape_text.push_crossing.Goals as goal

pub returns : goal.returns
unfolding crossing_parts
returns c = rw crossing_is (first_of (search rules, grind (arith, common_steps)))
