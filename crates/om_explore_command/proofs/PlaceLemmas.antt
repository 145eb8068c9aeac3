-- Places at which what was found differs.
use Rattle.std.proofs.Common.{◌≡◌, ℕ, ◌<◌, ◌⊎◌, inl, inr, cond, Option, Some, Result, Ok, Err, is_ok, List, [], ◌∷◌, ◌++◌, length, get_or, sym, ap, subst, ◌∙◌, append_assoc, arith}
use Rattle.std.specs.Prelude.{OnOk, slice_get}
use Rattle.std.proofs.Math.Seq.{get_or-append_seam}
use Rattle.std.proofs.lemmas.Bool.Decides.{eqb_tells}
use Rattle.std.proofs.lemmas.List.{get_or_append_left, length-append}
use Rattle.std.proofs.lemmas.Option.{get_or_from_slice_get, slice_get-get_or, slice_get_within}
use Rattle.om_explore_command.specs.Differences.{DifferFirst}
use Rattle.om_explore_command.specs.ExplorationText.{DifferAt}
use Rattle.om_explore_command.specs.declared.difference.TextPosition.{TextPosition}
use Rattle.om_explore_command.specs.declared.tally.Found.{Found}

some_same : {X : Type 0} (x y : X) → Some x ≡ Some y → x ≡ y
some_same x y is = cc

-- an element stands in front of the last, or is it
pub push_cases : {X : Type 0} (xs : List X) (x y : X) (j : ℕ) → slice_get (xs ++ x ∷ []) j ≡ Some y
    → (slice_get xs j ≡ Some y) ⊎ ((j ≡ length xs) × (y ≡ x))
push_cases xs x y j at =
    let read : get_or (xs ++ x ∷ []) j y ≡ y = get_or_from_slice_get (xs ++ x ∷ []) j y y at in
    let low : j < length (xs ++ x ∷ []) = slice_get_within (xs ++ x ∷ []) j y at in
    elim (eqb_tells j (length xs)) [
      | inl is ↦ inr (is.1, sym read ∙ ap (λ i. get_or (xs ++ x ∷ []) i y) is.1 ∙ get_or-append_seam xs x [] y)
      | inr off ↦
          let apart = off.1 in
          let under : j < length xs = omega (arith, length-append xs (x ∷ []), apart) in
          inl (slice_get-get_or xs j y under ∙ ap Some (sym (get_or_append_left xs (x ∷ []) y j under) ∙ read))
    ]

-- one place more
pub places_more : (n : ℕ) (found : List Found) (places : List (Option TextPosition)) (first this : Found) (p : Option TextPosition) → slice_get found 0 ≡ Some first
    → slice_get found (length places) ≡ Some this → DifferFirst n first.outcome.report this.outcome.report p → DifferAt n found places
    → DifferAt n found (places ++ p ∷ [])
places_more n found places first this p at_first at_this differ before k one other place at_one at_other at = elim (push_cases places p place k at) [
  | inl earlier ↦ before k one other place at_one at_other earlier
  | inr last ↦
      let same_one : first ≡ one = some_same first one (sym at_first ∙ at_one) in
      let same_other : this ≡ other = some_same this other (sym at_this ∙ ap (slice_get found) (sym last.0) ∙ at_other) in
      subst (DifferFirst n one.outcome.report other.outcome.report) (sym last.1)
      (subst (λ f. DifferFirst n f.outcome.report other.outcome.report p) same_one
      (subst (λ f. DifferFirst n first.outcome.report f.outcome.report p) same_other differ))
]

-- what is read at a place stands there
pub read_at : {X : Type 0} (xs : List X) (i : ℕ) (x : X) → i < length xs → x ≡ get_or xs i x → slice_get xs i ≡ Some x
read_at xs i x low is = slice_get-get_or xs i x low ∙ ap Some (sym is)

-- where the elements are read so
pub read_two : {X Y : Type 0} (R : Y → Y → Type 0) (f : X → Y) (xs : List X) (i j : ℕ) (x y : X) → x ≡ get_or xs i x → y ≡ get_or xs j y
    → R (f (get_or xs i x)) (f (get_or xs j y)) → R (f x) (f y)
read_two R f xs i j x y is_x is_y holds = subst (λ a. R (f a) (f y)) (sym is_x) (subst (λ b. R (f (get_or xs i x)) (f b)) (sym is_y) holds)

-- texts that were written one behind the other
pub grows_by_two : {A E : Type 0} (r : Result A E) (old mid new a b c : List ℕ) → mid ≡ old ++ a → OnOk r (new ≡ mid ++ (b ++ c))
    → OnOk r (new ≡ old ++ ((a ++ b) ++ c))
grows_by_two (Ok x) old mid new a b c first second =
    second ∙ ap (λ t. t ++ (b ++ c)) first ∙ append_assoc old a (b ++ c) ∙ ap (λ t. old ++ t) (sym (append_assoc a b c))
grows_by_two (Err e) old mid new a b c first second = tt

pub grows_by_three : {A E : Type 0} (r : Result A E) (old one two new a b c : List ℕ) → one ≡ old ++ a → two ≡ one ++ b → OnOk r (new ≡ two ++ c)
    → OnOk r (new ≡ old ++ ((a ++ b) ++ c))
grows_by_three (Ok x) old one two new a b c first second third =
    third
    ∙ ap (λ t. t ++ c) (second ∙ ap (λ t. t ++ b) first ∙ append_assoc old a b)
    ∙ append_assoc old (a ++ b) c
grows_by_three (Err e) old one two new a b c first second third = tt

-- a character was written
pub pushed : {A E : Type 0} (r : Result A E) (old new x : List ℕ) → new ≡ cond (is_ok r) (old ++ x) old → OnOk r (new ≡ old ++ x)
pushed (Ok a) old new x is = is
pushed (Err e) old new x is = tt
