use Rattle.std.specs.Prelude.{◌≡◌, ℕ, ◌<◌, ◌≤◌, List, All, AllPairs, slice_index}
use Rattle.om_interval.specs.Vectors.{IsBelow}
use Rattle.om_recover.specs.Rows.{Rows, HasRow}
use Rattle.om_recover.specs.Recoverable.{IsStable, IsRecoverable}
use Rattle.om_recover.specs.declared.row.Row.{Row}

-- of the process's stable intervals at or above an interval, the least
pub record IsLeastStable (rows : Rows) (p from y : ℕ) : Type 0 where
  pub stable : IsStable rows p y
  pub above : from ≤ y
  pub least : (z : ℕ) → IsStable rows p z → from ≤ z → y ≤ z

-- the intervals that a state needs where a process is raised to an interval: that one, and for each of them what its
-- vector names beyond the state, raised to its process's least stable interval there
pub data IsNeeded (rows : Rows) (state : List ℕ) (p x : ℕ) : ℕ → ℕ → Type 0 where
  starts : IsNeeded rows state p x p x
  follows : (row : Row) (j y : ℕ) → IsNeeded rows state p x row.pid row.interval → HasRow rows row
      → slice_index state j < slice_index row.vec j
      → IsLeastStable rows j (slice_index row.vec j) y → IsNeeded rows state p x j y

-- the looks of an attempt: each is of an interval that the start needs, and none is made twice
pub record AreLooks (rows : Rows) (state : List ℕ) (p x : ℕ) (looks : List (ℕ × ℕ)) : Type 0 where
  pub needed : All (λ look. IsNeeded rows state p x look.0 look.1) looks
  pub once : AllPairs (λ one other. one ≡ other → ⊥) looks

-- the least recoverable state at or above the state that has process p at x or above
pub record IsClimbed (n : ℕ) (rows : Rows) (state : List ℕ) (p x : ℕ) (climbed : List ℕ) : Type 0 where
  pub recoverable : IsRecoverable n rows climbed
  pub above : IsBelow state climbed
  pub started : x ≤ slice_index climbed p
  pub least : (other : List ℕ) → IsRecoverable n rows other → IsBelow state other → x ≤ slice_index other p → IsBelow climbed other
