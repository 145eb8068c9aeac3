use Rattle.std.proofs.Common.{arith, rules}
use Rattle.std.proofs.lemmas.Grind.{common_steps}
use Rattle.om_svg.specs.steps.Marks.{path_parts}
use Rattle.om_svg.proofs.Pieces.{path_is}
use Rattle.om_svg.proofs.shape_text.push_path.Goals as goal

pub returns : goal.returns
unfolding path_parts
returns c = rw path_is (first_of (search rules, grind (arith, common_steps)))
