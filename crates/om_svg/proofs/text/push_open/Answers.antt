use Rattle.std.proofs.Common.{arith, rules}
use Rattle.std.proofs.lemmas.Grind.{common_steps}
use Rattle.om_svg.specs.steps.Sheets.{open_parts}
use Rattle.om_svg.proofs.Pieces.{open_is}
use Rattle.om_svg.proofs.text.push_open.Goals as goal

pub returns : goal.returns
unfolding open_parts
returns c = rw open_is (first_of (search rules, grind (arith, common_steps)))
