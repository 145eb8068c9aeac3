-- What the newest checkpoints and the tree of the others hold.
use Rattle.std.specs.Prelude.{◌≡◌, ℕ, ◌+◌, ◌<◌, Bool, cond, List, [], ◌∷◌, ◌++◌, slice_get, Option, Some, None, IsSome}
use Rattle.std.specs.Option.{option_map}
use Rattle.om_recover.specs.steps.Nearest.{at, AreSorted, IsPut}
use Rattle.om_recover.specs.declared.rows.trees.Base.{Base}
use Rattle.om_recover.specs.declared.rows.trees.Newest.{Newest}
use Rattle.om_recover.specs.declared.rows.trees.Bases.{Bases}

abbrev pub newest_of : ℕ → Base → Newest
newest_of x base = record { interval = x; base = base }

-- the newest checkpoints of the processes from one on
abbrev pub newest_entries : ℕ → List (Option Newest) → List ((ℕ × ℕ) × Base)
newest_entries p [] = []
newest_entries p (None ∷ more) = newest_entries (p + 1) more
newest_entries p (Some newest ∷ more) = ((p, newest.interval), newest.base) ∷ newest_entries (p + 1) more

-- all checkpoints, by process and interval
abbrev pub base_entries : Bases → List ((ℕ × ℕ) × Base)
base_entries bases = newest_entries 0 bases.newest.items ++ bases.others.entries

-- the newest checkpoint of the process is this one
abbrev pub IsNewest : List (Option Newest) → ℕ → ℕ → Base → Type 0
IsNewest newest p x base = slice_get newest p ≡ Some (Some (newest_of x base))

-- the process has no newest checkpoint
abbrev pub HasNoNewest : List (Option Newest) → ℕ → Type 0
HasNoNewest newest p = (x : ℕ) (base : Base) → IsNewest newest p x base → ⊥

-- the tree is in order, and its checkpoints are below their process's newest
pub record AreBases (bases : Bases) : Type 0 where
  pub sorted : AreSorted bases.others.entries
  pub below : (p x y : ℕ) (base : Base) → IsSome (at bases.others.entries p x) → IsNewest bases.newest.items p y base → x < y

-- the checkpoints have this one at x, and elsewhere what they had
pub record IsStored (old new : Bases) (p x : ℕ) (base : Base) : Type 0 where
  pub sorted : AreBases new
  pub here : at (base_entries new) p x ≡ Some base
  pub others : (q y : ℕ) → (q ≡ p → y ≡ x → ⊥) → at (base_entries new) q y ≡ at (base_entries old) q y

-- the checkpoints are those that there were
pub record AreSameBases (old new : Bases) : Type 0 where
  pub sorted : AreBases new
  pub same : (p x : ℕ) → at (base_entries new) p x ≡ at (base_entries old) p x

-- the checkpoints are those that there were at the places that pass a test, each changed
pub record AreBasesPart (test : ℕ × ℕ → Bool) (change : ℕ × ℕ → Base → Base) (old new : Bases) : Type 0 where
  pub sorted : AreBases new
  pub part : (p x : ℕ) → at (base_entries new) p x ≡ cond (test (p, x)) (option_map (change (p, x)) (at (base_entries old) p x)) None

-- the process's newest checkpoint stands in the tree too
pub record IsShelved (old new : Bases) (p : ℕ) : Type 0 where
  pub sorted : AreSorted new.others.entries
  pub newest : new.newest ≡ old.newest
  pub put : (x : ℕ) (base : Base) → IsNewest old.newest.items p x base → IsPut old.others.entries new.others.entries p x base
  pub left : HasNoNewest old.newest.items p → new.others ≡ old.others

-- none of the process's checkpoints is at the interval or above
pub record IsTop (bases : Bases) (p x : ℕ) : Type 0 where
  pub slot : Option Newest
  pub own : slice_get bases.newest.items p ≡ Some slot
  pub above : (y : ℕ) → IsSome (at (base_entries bases) p y) → y < x

-- the newest checkpoints that pass a test, each changed
abbrev pub newest_part : (ℕ × ℕ → Bool) → (ℕ × ℕ → Base → Base) → ℕ → Option Newest → Option Newest
newest_part test change p None = None
newest_part test change p (Some newest) =
    cond (test (p, newest.interval)) (Some (newest_of newest.interval (change (p, newest.interval) newest.base))) None

-- no checkpoint is there
pub record HaveNoBases (bases : Bases) : Type 0 where
  pub sorted : AreBases bases
  pub none : (p x : ℕ) → at (base_entries bases) p x ≡ None

-- the newest checkpoints are those of processes whose places pass a test, each changed
abbrev pub AreNewestPart : (ℕ × ℕ → Bool) → (ℕ × ℕ → Base → Base) → List (Option Newest) → List (Option Newest) → Type 0
AreNewestPart test change old new = (p : ℕ) → slice_get new p ≡ option_map (newest_part test change p) (slice_get old p)
