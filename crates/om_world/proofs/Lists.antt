-- Lists of which one element changes.
use Rattle.std.proofs.Common.{◌≡◌, ◌≢◌, ◌⊎◌, inl, inr, ℕ, zero, suc, ◌<◌, List, [], ◌∷◌, length, map, set, get_or, Option, Some, None, Result, Err, Ok, Bool, true, false, refl, sym, ap, ◌∙◌, subst, arith}
use Rattle.std.specs.List.{AllByRecursion}
use Rattle.std.specs.Prelude.{◌&&◌, IfNone, IfSome, nat_eq, slice_get}
use Rattle.std.proofs.lemmas.Bool.Decides.{nat_tests}
use Rattle.om_world.specs.World.{Health, all_clean}

pub none_in : {A : Type 0} (i : ℕ) (s : A) → slice_get [] i ≡ Some s → ⊥
none_in i s h = cc

pub once : {A : Type 0} (a b : A) → Some a ≡ Some b → a ≡ b
once a b e = cc

pub once_ok : {T E : Type 0} (r : Result T E) (a b : T) → r ≡ Ok a → r ≡ Ok b → a ≡ b
once_ok r a b e f = cc

pub once_err : {T E : Type 0} (r : Result T E) (a b : E) → r ≡ Err a → r ≡ Err b → a ≡ b
once_err r a b e f = cc

-- what stands at a place of a list that was changed at one
pub at_change : {A : Type 0} (cs : List A) (i j : ℕ) (s t : A) → slice_get (set cs i t) j ≡ Some s → ((j ≡ i) × (s ≡ t)) ⊎ ((j ≢ i) × (slice_get cs j ≡ Some s))
at_change [] i j s t e = absurd (none_in j s e)
at_change (c ∷ cs) zero zero s t e = inl (refl, sym (once t s e))
at_change (c ∷ cs) zero (suc j) s t e = inr (omega arith, e)
at_change (c ∷ cs) (suc i) zero s t e = inr (omega arith, e)
at_change (c ∷ cs) (suc i) (suc j) s t e = elim (at_change cs i j s t e) [ inl p ↦ inl (ap suc p.0, p.1) | inr p ↦ inr (omega arith, p.1) ]

pub there : {A : Type 0} (xs : List A) (i : ℕ) → i < length xs → (x : A) × (slice_get xs i ≡ Some x)
there [] i lt = absurd (omega arith)
there (x ∷ xs) zero lt = (x, refl)
there (x ∷ xs) (suc i) lt = there xs i (omega arith)

pub inside : {A : Type 0} (xs : List A) (i : ℕ) (x : A) → slice_get xs i ≡ Some x → i < length xs
inside [] i x e = absurd (none_in i x e)
inside (y ∷ xs) zero x e = omega arith
inside (y ∷ xs) (suc i) x e = let r = inside xs i x e in omega arith

pub set_lent : {A : Type 0} (xs : List A) (i : ℕ) (x : A) → x ≡ get_or xs i x → set xs i x ≡ xs
set_lent [] i x e = refl
set_lent (y ∷ xs) zero x e = ap (λ z. z ∷ xs) e
set_lent (y ∷ xs) (suc i) x e = ap (λ l. y ∷ l) (set_lent xs i x e)

pub lent_at : {A : Type 0} (xs : List A) (i : ℕ) (x : A) → i < length xs → x ≡ get_or xs i x → slice_get xs i ≡ Some x
lent_at [] i x lt e = absurd (omega arith)
lent_at (y ∷ xs) zero x lt e = ap (λ z. Some z) (sym e)
lent_at (y ∷ xs) (suc i) x lt e = lent_at xs i x (omega arith) e

pub set_apart : {A : Type 0} (xs : List A) (i j : ℕ) (x : A) → j ≢ i → slice_get (set xs i x) j ≡ slice_get xs j
set_apart [] i j x ne = refl
set_apart (y ∷ xs) zero zero x ne = absurd (ne refl)
set_apart (y ∷ xs) zero (suc j) x ne = refl
set_apart (y ∷ xs) (suc i) zero x ne = refl
set_apart (y ∷ xs) (suc i) (suc j) x ne = set_apart xs i j x (omega arith)

pub either : (q p : ℕ) → (q ≡ p) ⊎ (q ≢ p)
either q p = go (nat_eq q p) refl
  where
    go : (b : Bool) → nat_eq q p ≡ b → (q ≡ p) ⊎ (q ≢ p)
    go true e = inl (grind (arith, nat_tests))
    go false e = inr (grind (arith, nat_tests))

pub none_some : {A : Type 0} (o : Option A) (a : A) → o ≡ None → o ≡ Some a → ⊥
none_some o a e f = cc

pub length-map : {A B : Type 0} (f : A → B) (xs : List A) → length (map f xs) ≡ length xs
length-map f [] = refl
length-map f (x ∷ xs) = ap suc (length-map f xs)

-- ---- one store of several
both : (a b : Bool) → (a && b) ≡ true → (a ≡ true) × (b ≡ true)
both true b e = (refl, e)
both false b e = cc

-- all are clean where all are after one changed, and that one was clean if it is
pub clean_before : {S : Type 0} (health : S → Health) (xs : List S) (i : ℕ) (s t : S) → slice_get xs i ≡ Some s → ((health t).clean ≡ true → (health s).clean ≡ true) → all_clean (map health (set xs i t)) ≡ true → (all_clean (map health xs) ≡ true) × ((health t).clean ≡ true)
clean_before health [] i s t at was all = absurd (none_in i s at)
clean_before health (x ∷ xs) zero s t at was all = let b = both (health t).clean (all_clean (map health xs)) all in (ap (λ c. c && all_clean (map health xs)) (ap (λ y. (health y).clean) (once x s at) ∙ was b.0) ∙ b.1, b.0)
clean_before health (x ∷ xs) (suc i) s t at was all = let b = both (health x).clean (all_clean (map health (set xs i t))) all in let r = clean_before health xs i s t at was b.1 in (ap (λ c. c && all_clean (map health xs)) b.0 ∙ r.0, r.1)

pub sound_at : {S : Type 0} (IsSound : S → Type 0) (xs : List S) (i : ℕ) (s : S) → AllByRecursion IsSound xs → slice_get xs i ≡ Some s → IsSound s
sound_at IsSound [] i s all at = absurd (none_in i s at)
sound_at IsSound (x ∷ xs) zero s all at = subst IsSound (once x s at) all.0
sound_at IsSound (x ∷ xs) (suc i) s all at = sound_at IsSound xs i s all.1 at

pub sound_set : {S : Type 0} (IsSound : S → Type 0) (xs : List S) (i : ℕ) (t : S) → AllByRecursion IsSound xs → IsSound t → AllByRecursion IsSound (set xs i t)
sound_set IsSound [] i t all is = tt
sound_set IsSound (x ∷ xs) zero t all is = (is, all.1)
sound_set IsSound (x ∷ xs) (suc i) t all is = (all.0, sound_set IsSound xs i t all.1 is)

pub map_set : {S X : Type 0} (f : S → X) (xs : List S) (i : ℕ) (t : S) → set (map f xs) i (f t) ≡ map f (set xs i t)
map_set f [] i t = refl
map_set f (x ∷ xs) zero t = refl
map_set f (x ∷ xs) (suc i) t = ap (λ ys. f x ∷ ys) (map_set f xs i t)

pub map_at : {S X : Type 0} (f : S → X) (xs : List S) (i : ℕ) (s : S) → slice_get xs i ≡ Some s → slice_get (map f xs) i ≡ Some (f s)
map_at f [] i s at = absurd (none_in i s at)
map_at f (y ∷ xs) zero s at = ap (λ z. Some (f z)) (once y s at)
map_at f (y ∷ xs) (suc i) s at = map_at f xs i s at

pub same_map : {S X : Type 0} (f : S → X) (xs : List S) (i : ℕ) (s t : S) → slice_get xs i ≡ Some s → f t ≡ f s → map f xs ≡ map f (set xs i t)
same_map f [] i s t at e = refl
same_map f (x ∷ xs) zero s t at e = ap (λ y. y ∷ map f xs) (ap f (once x s at) ∙ sym e)
same_map f (x ∷ xs) (suc i) s t at e = ap (λ ys. f x ∷ ys) (same_map f xs i s t at e)

pub set_there : {A : Type 0} (xs : List A) (p : ℕ) (x y : A) → slice_get xs p ≡ Some x → slice_get (set xs p y) p ≡ Some y
set_there [] p x y at = absurd (none_in p x at)
set_there (z ∷ xs) zero x y at = refl
set_there (z ∷ xs) (suc p) x y at = set_there xs p x y at

-- ---- what is said of an option
pub if_some : {A : Type 0} (o : Option A) (P Q : A → Type 0) → ((a : A) → P a → Q a) → IfSome o P → IfSome o Q
if_some (Some a) P Q goes is = goes a is
if_some None P Q goes is = tt

pub if_none : {A : Type 0} (o : Option A) (P Q : Type 0) → (P → Q) → IfNone o P → IfNone o Q
if_none (Some a) P Q goes is = tt
if_none None P Q goes is = goes is
