use Rattle.std.proofs.Common.{◌≡◌, ◌∙◌, arith, to_z, of_z, w64}
use Rattle.std.proofs.lemmas.Int.{ints, to_z-of_z}
use Rattle.om_machine.specs.Values.{signed}
use Rattle.om_machine.proofs.ProductLemmas.{high_of_signed}
use Rattle.om_machine.proofs.products.multiply_high.Goals as goal

pub returns : goal.returns
returns c =
    let first : to_z w64 (of_z w64 c.from.result) ≡ signed c.args.a = grind (arith, ints, to_z-of_z) in
    let second : to_z w64 (of_z w64 c.from-2.result) ≡ signed c.args.b = grind (arith, ints, to_z-of_z) in
    c.high.ensures ∙ high_of_signed c.args.a c.args.b _ _ c.ranges.a.fits c.ranges.b.fits first second
