-- What it is to be the records between two intervals.
use Rattle.std.specs.Prelude.{◌≡◌, ℕ, ◌<◌, ◌≤◌, List, Some}
use Rattle.std.specs.FinMap.{get}
use Rattle.std.specs.List.{slice_get}
use Rattle.om_stable.specs.Content.{Records}

-- the rows are the records held above after and at or below to: each of them, no other, in ascending order
pub record AreAllBetween (held : Records) (after to : ℕ) (rows : List (ℕ × List ℕ)) : Type 0 where
  pub within : (i : ℕ) (row : ℕ × List ℕ) → slice_get rows i ≡ Some row → (after < row.0) × (row.0 ≤ to)
  pub are_held : (i : ℕ) (row : ℕ × List ℕ) → slice_get rows i ≡ Some row → get held row.0 ≡ Some row.1
  pub rise : (i j : ℕ) (row later : ℕ × List ℕ) → i < j → slice_get rows i ≡ Some row → slice_get rows j ≡ Some later
      → row.0 < later.0
  pub are_all : (x : ℕ) (bytes : List ℕ) → after < x → x ≤ to → get held x ≡ Some bytes
      → (i : ℕ) × (slice_get rows i ≡ Some (x, bytes))
