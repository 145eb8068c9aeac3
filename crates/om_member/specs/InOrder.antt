-- What is done in order, up to the first that is refused.
use Rattle.std.specs.Prelude.{◌≡◌, ℕ, ◌≤◌, List, [], ◌∷◌, length, take, slice_get, Some, Result, OnOk, IfErr}

-- all of it is done in order, each with the answer that it gets
abbrev pub AllDo : {S A N : Type 0} → (S → A → N → S → Type 0) → S → List A → S → Type 0
AllDo Does old [] new = new ≡ old
AllDo {S} {A} {N} Does old (a ∷ rest) new = (mid : S) × (note : N) × Does old a note mid × AllDo Does mid rest new

-- so many of it are done in order; that is all, or the next is refused for the error
pub record DoUpTo {S A N E : Type 0} (Does : S → A → N → S → Type 0) (Refuses : S → A → E → Type 0) (old : S) (items : List A)
    (count : ℕ) (end : Result (Unit {0}) E) (new : S) : Type 0 where
  pub within : count ≤ length items
  pub done : AllDo Does old (take count items) new
  pub all : OnOk end (count ≡ length items)
  pub refused : IfErr end (λ why. (a : A) × (slice_get items count ≡ Some a) × Refuses new a why)
