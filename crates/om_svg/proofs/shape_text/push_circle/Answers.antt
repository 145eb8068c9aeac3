use Rattle.std.proofs.Common.{arith, rules}
use Rattle.std.proofs.lemmas.Grind.{common_steps}
use Rattle.om_svg.specs.steps.Marks.{circle_parts}
use Rattle.om_svg.proofs.Pieces.{circle_is}
use Rattle.om_svg.proofs.shape_text.push_circle.Goals as goal

pub returns : goal.returns
unfolding circle_parts
returns c = rw circle_is (first_of (search rules, grind (arith, common_steps)))
