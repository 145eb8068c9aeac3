use Rattle.std.proofs.Common.{arith, rules}
use Rattle.std.proofs.lemmas.Grind.{common_steps}
use Rattle.om_svg.specs.steps.Marks.{band_parts}
use Rattle.om_svg.proofs.Pieces.{band_is}
use Rattle.om_svg.proofs.shape_text.push_band.Goals as goal

pub returns : goal.returns
unfolding band_parts
returns c = rw band_is (first_of (search rules, grind (arith, common_steps)))
