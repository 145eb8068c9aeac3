-- Processes that are sent to before an event, one after another.
use Rattle.std.specs.Prelude.{◌≡◌, ℕ, zero, suc, List, [], ◌∷◌, Some, slice_get, slice_set}
use Rattle.om_inferiors.specs.declared.inferior.Inferior.{Inferior}
use Rattle.om_inferiors.specs.Monitor.{IsSentTo}

-- the one at a place was
pub record IsSentAt (number place : ℕ) (olds news : List Inferior) : Type 0 where
  pub old : Inferior
  pub new : Inferior
  pub was : slice_get olds place ≡ Some old
  pub sent : IsSentTo number old new
  pub is : news ≡ slice_set olds place new

-- the first so many were, and the others stand where they stood
abbrev pub AreFirstSent : ℕ → ℕ → List Inferior → List Inferior → Type 0
AreFirstSent number zero olds news = news ≡ olds
AreFirstSent number (suc k) [] [] = Unit {0}
AreFirstSent number (suc k) (old ∷ olds) (new ∷ news) = IsSentTo number old new × AreFirstSent number k olds news
AreFirstSent number (suc k) olds news = ⊥
