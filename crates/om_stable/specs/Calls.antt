-- What holds of every call of a store, whatever it answers.
use Rattle.std.specs.Prelude.{◌≡◌, ℕ, ◌≤◌, Bool, IsTrue, Option, Some, Result, OnErr}
use Rattle.om_stable.specs.Content.{Content}
use Rattle.om_stable.specs.Count.{Rose}
use Rattle.om_stable.specs.declared.error.StoreError.{StoreError}
use Rattle.om_stable.specs.declared.error.StoreError.TheVariants.{Fault}

-- the store is clean as the call ends, and was sound as it began: so what the call does to the content is known
abbrev pub IsCleanCall : {S : Type 0} → (S → Bool) → (S → Type 0) → S → S → Type 0
IsCleanCall is_clean IsSound old new = IsTrue (is_clean new) × IsSound old

-- what a call keeps and counts, by the store before, its error if any, and the store after
pub record IsCall {S : Type 0} (failed : S → ℕ) (is_clean : S → Bool) (IsSound : S → Type 0)
    (call_gives : S → Option StoreError → S → Type 0) (old : S) (error : Option StoreError) (new : S) : Type 0 where
  pub fault : error ≡ Some Fault → Rose (failed old) (failed new)
  pub count : failed old ≤ failed new
  pub gives : call_gives old error new
  pub clean : IsTrue (is_clean new) → IsTrue (is_clean old)
  pub sound : IsTrue (is_clean new) → IsSound old → IsSound new

-- what a call leaves and counts of a store that it uses, by the store before, whether it answers a fault of it, and the store after
pub record UsesStore {S : Type 0} (failed : S → ℕ) (is_clean : S → Bool) (IsSound : S → Type 0) (old : S) (IsFault : Type 0) (new : S) : Type 0 where
  pub fault : IsFault → Rose (failed old) (failed new)
  pub count : failed old ≤ failed new
  pub clean : IsTrue (is_clean new) → IsTrue (is_clean old)
  pub sound : IsTrue (is_clean new) → IsSound old → IsSound new

-- a clean call leaves the content
abbrev pub LeavesContent : {S : Type 0} → (S → Content) → (S → Bool) → (S → Type 0) → S → S → Type 0
LeavesContent content is_clean IsSound old new = IsCleanCall is_clean IsSound old new → content new ≡ content old

-- a clean call that is refused does
abbrev pub LeavesRefused : {S A E : Type 0} → (S → Content) → (S → Bool) → (S → Type 0) → S → Result A E → S → Type 0
LeavesRefused content is_clean IsSound old result new = IsCleanCall is_clean IsSound old new → OnErr result (content new ≡ content old)
