-- Answers that are no fault.
use Rattle.std.proofs.Common.{◌≡◌, List, [], ◌∷◌, ◌++◌, All, sym, subst}
use Rattle.std.proofs.lemmas.List.Elements.{All-push}
use Rattle.om_world.specs.declared.event.Answer.{Answer}
use Rattle.om_world.specs.Played.{IsFaultless}

-- one answer more
pub one_faultless : (xs ys : List Answer) (a : Answer) → ys ≡ xs ++ a ∷ [] → All IsFaultless xs → IsFaultless a → All IsFaultless ys
one_faultless xs ys a same all one = subst (All IsFaultless) (sym same) (All-push IsFaultless xs a all one)
