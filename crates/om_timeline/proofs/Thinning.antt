-- Fewer machines are kept.
use Rattle.std.proofs.Common.{ℕ, ◌<◌, List, length, set, get_or, subst}
use Rattle.std.specs.Prelude.{All}
use Rattle.std.specs.List.{swap}
use Rattle.std.proofs.lemmas.List.Edits.{swap_is}
use Rattle.std.proofs.lemmas.List.Elements.{All-get_or, All-set}
use Rattle.om_world.proofs.Lists.{there}

pub All-swap : {X : Type 0} (P : X → Type 0) (xs : List X) (i j : ℕ) → i < length xs → j < length xs → All P xs → All P (swap xs i j)
All-swap {X} P xs i j first second all =
    let d : X = (there xs i first).0 in
    subst (All P) (swap_is xs i j d first second)
    (All-set P (set xs i (get_or xs j d)) j (get_or xs i d) (All-get_or P xs i d first all) (All-set P xs i (get_or xs j d) (All-get_or P xs j d second all) all))
