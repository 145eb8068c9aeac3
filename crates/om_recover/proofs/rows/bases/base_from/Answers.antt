use Rattle.std.proofs.Common.{arith}
use Rattle.om_recover.proofs.RunLemmas.{either_way}
use Rattle.om_recover.proofs.BaseLemmas.{none_from_others, from_others, to_newest, newest_from}
use Rattle.om_recover.proofs.rows.bases.base_from.Goals as goal

pub returns-in_default : goal.returns-in_default
returns-in_default c =
    let none = rw c.deref.ensures.value at c.in_default.ensures in
    either_way c.nearest_from.result (λ no_other. none_from_others c.args.bases.now c.args.pid c.args.from none no_other) (λ found near. from_others c.args.bases.now _ _ _ _ c.requires near) c.nearest_from.ensures

pub returns-then-newest-from : goal.returns-then-newest-from
returns-then-newest-from c = λ y some above.
    let own = rw c.deref.ensures.value at c.in-Some.ensures in
    omega (arith, to_newest c.args.bases.now _ _ _ _ c.requires own some, above, c.if-newest-from.true)

pub returns-in_default-nearest_from : goal.returns-in_default-nearest_from
returns-in_default-nearest_from c =
    let own = rw c.deref.ensures.value at c.in-Some.ensures in
    newest_from c.args.bases.now _ _ _ _ own c.if-newest-from.false c.in_default-nearest_from.ensures

pub returns : goal.returns
returns c = from_others c.args.bases.now _ _ _ _ c.requires c.in-Some-nearest_from.ensures
