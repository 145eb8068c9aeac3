-- What calls that only read a store keep and count.
use Rattle.std.specs.Prelude.{◌≡◌, ℕ, ◌≤◌, Bool, IsTrue}
use Rattle.om_stable.specs.Calls.{IsCleanCall}
use Rattle.om_stable.specs.Content.{Content}
use Rattle.om_stable.specs.Count.{Rose}

-- the content stays, and where the outcome is a failure of the store its count rose
pub record IsReading {S : Type 0} (content : S → Content) (failed : S → ℕ) (is_clean : S → Bool) (IsSound : S → Type 0)
    (old : S) (HasFailed : Type 0) (new : S) : Type 0 where
  pub same : IsCleanCall is_clean IsSound old new → content new ≡ content old
  pub fault : HasFailed → Rose (failed old) (failed new)
  pub count : failed old ≤ failed new
  pub clean : IsTrue (is_clean new) → IsTrue (is_clean old)
  pub sound : IsTrue (is_clean new) → IsSound old → IsSound new
