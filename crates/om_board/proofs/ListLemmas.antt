-- Elements of lists.
use Rattle.std.proofs.Common.{◌≡◌, ◌⊎◌, inl, inr, ℕ, zero, suc, List, [], ◌∷◌, ◌++◌, Some, refl, sym, ap, length, map}
use Rattle.std.specs.Prelude.{slice_get}
use Rattle.std.proofs.lemmas.Option.{none-some, same_Some}

pub none_in : {A : Type 0} (i : ℕ) (a : A) → slice_get [] i ≡ Some a → ⊥
none_in zero a e = none-some a e
none_in (suc i) a e = none-some a e

pub map_get : {A B : Type 0} (f : A → B) (xs : List A) (i : ℕ) (x : A) → slice_get xs i ≡ Some x → slice_get (map f xs) i ≡ Some (f x)
map_get f [] i x e = absurd (none_in i x e)
map_get f (y ∷ xs) zero x e = ap Some (ap f (same_Some y x e))
map_get f (y ∷ xs) (suc i) x e = map_get f xs i x e

pub map_had : {A B : Type 0} (f : A → B) (xs : List A) (i : ℕ) (y : B) → slice_get (map f xs) i ≡ Some y → (x : A) × (slice_get xs i ≡ Some x) × (f x ≡ y)
map_had f [] i y e = absurd (none_in i y e)
map_had f (x ∷ xs) zero y e = (x, refl, same_Some (f x) y e)
map_had f (x ∷ xs) (suc i) y e = map_had f xs i y e

-- an element of a list with one more is that one or was there
pub more_had : {A : Type 0} (xs : List A) (i : ℕ) (y x : A) → slice_get (xs ++ y ∷ []) i ≡ Some x → ((i ≡ length xs) × (x ≡ y)) ⊎ (slice_get xs i ≡ Some x)
more_had [] zero y x e = inl (refl, sym (same_Some y x e))
more_had [] (suc i) y x e = absurd (none_in i x e)
more_had (z ∷ xs) zero y x e = inr e
more_had (z ∷ xs) (suc i) y x e = elim (more_had xs i y x e) [ inl p ↦ inl (ap suc p.0, p.1) | inr p ↦ inr p ]
