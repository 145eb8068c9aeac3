use Rattle.std.proofs.Common.{arith, rules}
use Rattle.std.proofs.lemmas.Grind.{common_steps}
use Rattle.om_svg.specs.steps.Marks.{turning_parts}
use Rattle.om_svg.proofs.shape_text.push_turning.Goals as goal

pub returns : goal.returns
unfolding turning_parts
returns c = first_of (search rules, grind (arith, common_steps))
