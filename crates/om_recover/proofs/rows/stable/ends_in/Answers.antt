use Rattle.std.proofs.Common.{arith}
use Rattle.std.proofs.lemmas.Bool.{leb-true}
use Rattle.om_recover.proofs.ReachLemmas.{ends_with_newest}
use Rattle.om_recover.proofs.rows.stable.ends_in.Goals as goal

pub returns-in-Some : goal.returns-in-Some
returns-in-Some c = λ yes z stable.
    let own = rw c.deref.ensures.value at c.in-Some.ensures in
    omega (arith, ends_with_newest c.args.trees.now _ _ _ c.requires own z stable, leb-true _ _ yes)
