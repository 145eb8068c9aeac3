-- Entries by process and interval.
use Rattle.std.specs.Prelude.{◌≡◌, ℕ, ◌<◌, ◌≤◌, List, Option, Some, None, IsSome, cond, slice_index, nat_le}
use Rattle.std.specs.declared.cmp.Ordering.{Ordering}
use Rattle.std.specs.Ordering.{ordering_then, nat_cmp}
use Rattle.std.specs.List.Sorted.{IsStrictlySortedBy}
use Rattle.std.specs.Map.{lookup, keys_of}
use Rattle.std.specs.BTreeMap.{is_at}

-- by process, and then by interval
abbrev pub place_cmp : ℕ × ℕ → ℕ × ℕ → Ordering
place_cmp one other = ordering_then (nat_cmp one.0 other.0) (nat_cmp one.1 other.1)

-- what the entries have at an interval of a process
abbrev pub at : {X : Type 0} → List ((ℕ × ℕ) × X) → ℕ → ℕ → Option X
at entries p x = lookup (is_at (place_cmp (p, x))) entries

-- the places of the entries ascend
abbrev pub AreSorted : {X : Type 0} → List ((ℕ × ℕ) × X) → Type 0
AreSorted entries = IsStrictlySortedBy place_cmp (keys_of entries)

-- of the process's entries at or below the bound, the one at x is the nearest
pub record IsNearestTo {X : Type 0} (entries : List ((ℕ × ℕ) × X)) (p to x : ℕ) (value : X) : Type 0 where
  pub there : at entries p x ≡ Some value
  pub within : x ≤ to
  pub nearest : (y : ℕ) → IsSome (at entries p y) → y ≤ to → y ≤ x

-- of the process's entries at or above the bound, the one at x is the nearest
pub record IsNearestFrom {X : Type 0} (entries : List ((ℕ × ℕ) × X)) (p from x : ℕ) (value : X) : Type 0 where
  pub there : at entries p x ≡ Some value
  pub within : from ≤ x
  pub nearest : (y : ℕ) → IsSome (at entries p y) → from ≤ y → x ≤ y

-- the process has no entry at or below the bound
abbrev pub HasNoneTo : {X : Type 0} → List ((ℕ × ℕ) × X) → ℕ → ℕ → Type 0
HasNoneTo entries p to = (y : ℕ) → IsSome (at entries p y) → y ≤ to → ⊥

-- the process has no entry at or above the bound
abbrev pub HasNoneFrom : {X : Type 0} → List ((ℕ × ℕ) × X) → ℕ → ℕ → Type 0
HasNoneFrom entries p from = (y : ℕ) → IsSome (at entries p y) → from ≤ y → ⊥

-- the entries have the value at x, and elsewhere what they had
pub record IsPut {X : Type 0} (old new : List ((ℕ × ℕ) × X)) (p x : ℕ) (value : X) : Type 0 where
  pub sorted : AreSorted new
  pub here : at new p x ≡ Some value
  pub others : (q y : ℕ) → (q ≡ p → y ≡ x → ⊥) → at new q y ≡ at old q y

-- the process has no entry below the bound
abbrev pub HasNoneBelow : {X : Type 0} → List ((ℕ × ℕ) × X) → ℕ → ℕ → Type 0
HasNoneBelow entries p from = (y : ℕ) → IsSome (at entries p y) → y < from → ⊥

-- the process has an entry at x, below the bound
pub record IsBelowBound {X : Type 0} (entries : List ((ℕ × ℕ) × X)) (p from x : ℕ) : Type 0 where
  pub there : IsSome (at entries p x)
  pub below : x < from

-- the entries without those of a process below the bound
pub record AreFrom {X : Type 0} (old new : List ((ℕ × ℕ) × X)) (p from : ℕ) : Type 0 where
  pub sorted : AreSorted new
  pub dropped : (y : ℕ) → y < from → at new p y ≡ None
  pub kept : (q y : ℕ) → (q ≡ p → y < from → ⊥) → at new q y ≡ at old q y

-- the entries without those below these bounds
pub record ArePruned {X : Type 0} (old new : List ((ℕ × ℕ) × X)) (bounds : List ℕ) : Type 0 where
  pub sorted : AreSorted new
  pub part : (p x : ℕ) → at new p x ≡ cond (nat_le (slice_index bounds p) x) (at old p x) None
