use Rattle.std.proofs.Common.{◌≡◌, refl, arith, length}
use Rattle.om_recover.proofs.StableLemmas.{record_of_stable}
use Rattle.om_recover.proofs.rows.lookup.got_from.Goals as goal

pub vectors_at-vectors-requires-clause-there : goal.vectors_at-vectors-requires-clause-there
vectors_at-vectors-requires-clause-there c = record_of_stable _ _ _ c.requires.stable

pub got_from-requires : goal.got_from-requires
got_from-requires c =
    let there = c.vectors_at-vectors.ensures in
    let places : length c.vectors_at-vectors.result.got ≡ c.requires.lawful.0 = (c.requires.lawful.1.fair _ there.1).got_places in
    omega (arith, places, c.requires.lawful.2)

pub returns : goal.returns
returns c =
    let there = c.vectors_at-vectors.ensures in
    (c.vectors_at-vectors.result.got, record { row = _; there = there.1; pid_is = refl; interval_is = refl; got_is = refl }, c.got_from.ensures)
