-- Records of intervals without a gap.
use Rattle.std.specs.Prelude.{◌≡◌, ◌⊎◌, ℕ, ◌+◌, ◌-◌, ◌≤◌, List, [], ◌∷◌}

-- the records with their intervals: the first stands at `first`
abbrev pub rows_from : ℕ → List (List ℕ) → List (ℕ × List ℕ)
rows_from first [] = []
rows_from first (bytes ∷ more) = (first, bytes) ∷ rows_from (first + 1) more

-- of len records from first on, count stand below bound
pub record AreBelow (first len bound count : ℕ) : Type 0 where
  pub within : count ≤ len
  pub below : count ≤ bound - first
  pub all : (count ≡ len) ⊎ (count ≡ bound - first)
