use Rattle.std.proofs.Common.{arith, rules}
use Rattle.std.proofs.lemmas.Grind.{common_steps}
use Rattle.om_svg.specs.steps.Marks.{square_parts}
use Rattle.om_svg.proofs.Pieces.{square_is}
use Rattle.om_svg.proofs.shape_text.push_square.Goals as goal

pub returns : goal.returns
unfolding square_parts
returns c = rw square_is (first_of (search rules, grind (arith, common_steps)))
