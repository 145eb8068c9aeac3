use Rattle.std.proofs.Common.{◌≡◌, ◌∙◌, arith, to_z, of_z, w64, pos}
use Rattle.std.proofs.lemmas.Int.{ints, to_z-of_z}
use Rattle.om_machine.specs.Values.{signed}
use Rattle.om_machine.proofs.ProductLemmas.{high_of_mixed}
use Rattle.om_machine.proofs.products.multiply_high_signed_unsigned.Goals as goal

pub returns : goal.returns
returns c =
    let first : to_z w64 (of_z w64 c.from.result) ≡ signed c.args.a = grind (arith, ints, to_z-of_z) in
    let second : to_z w64 (of_z w64 c.from-2.result) ≡ pos c.args.b = grind (arith, ints, to_z-of_z) in
    c.high.ensures ∙ high_of_mixed c.args.a c.args.b _ _ c.ranges.a.fits c.ranges.b.fits first second
