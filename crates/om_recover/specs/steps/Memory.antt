use Rattle.std.specs.Prelude.{◌≡◌, ℕ, ◌<◌, ◌≤◌, ◌⊎◌, ⊤, List, length, slice_index, slice_index_or, Option, Some, None, MatchOption}
use Rattle.om_recover.specs.Rows.{Rows, HasRow}
use Rattle.om_recover.specs.Recoverable.{IsStable}
use Rattle.om_recover.specs.steps.Climbing.{IsNeededWithin}
use Rattle.om_recover.specs.declared.row.Row.{Row}
use Rattle.om_recover.specs.declared.search.failed_climbs.FailedClimb.{FailedClimb}

-- why the climb waits: a row that it needs names that interval
pub record IsReason (rows : Rows) (state : List ℕ) (p : ℕ) (memory : FailedClimb) : Type 0 where
  pub row : Row
  pub there : HasRow rows row
  pub needed : IsNeededWithin rows state memory.reached p memory.start row.pid row.interval
  pub names : memory.from ≤ slice_index row.vec memory.waits

-- a climb of the process from its start comes, in these rows and from this state, to what it reached, and needs of the process
-- waited for an interval there
pub record IsRemembered (n : ℕ) (rows : Rows) (state : List ℕ) (p : ℕ) (memory : FailedClimb) : Type 0 where
  pub places : length memory.reached ≡ n
  pub waits : memory.waits < n
  pub started : memory.start ≤ slice_index memory.reached p
  pub stable : (q : ℕ) → q < n → slice_index state q < slice_index memory.reached q → IsStable rows q (slice_index memory.reached q)
  pub needed : (q : ℕ) → q < n → slice_index state q < slice_index memory.reached q
      → IsNeededWithin rows state memory.reached p memory.start q (slice_index memory.reached q)
  pub reason : slice_index state memory.waits < memory.from → IsReason rows state p memory

-- what is left of it where what was read last is not in its way: it lacks nothing
abbrev pub part_of : FailedClimb → FailedClimb
part_of memory = record memory { reached = memory.passed; from = 0 }

-- a memory, and what is left of it
pub record IsTrueMemory (n : ℕ) (rows : Rows) (state : List ℕ) (p : ℕ) (memory : FailedClimb) : Type 0 where
  pub whole : IsRemembered n rows state p memory
  pub part : IsRemembered n rows state p (part_of memory)

-- each process's memory, if it has one
abbrev pub AreRemembered : ℕ → Rows → List ℕ → List (Option FailedClimb) → Type 0
AreRemembered n rows state places = (p : ℕ) → p < n → MatchOption (slice_index_or places p None) ⊤ (IsTrueMemory n rows state p)

-- at most the one process's memory became the given one
abbrev pub IsKept : List (Option FailedClimb) → List (Option FailedClimb) → ℕ → FailedClimb → Type 0
IsKept old new p memory =
    (q : ℕ) → (slice_index_or new q None ≡ slice_index_or old q None) ⊎ ((q ≡ p) × (slice_index_or new q None ≡ Some memory))

-- the memory has a place for the process
pub record HasPlace (p : ℕ) (memory : FailedClimb) : Type 0 where
  pub reached : p < length memory.reached
  pub passed : p < length memory.passed

-- it came no further, at a process, than to an interval
pub record IsUpTo (p x : ℕ) (memory : FailedClimb) : Type 0 where
  pub reached : slice_index memory.reached p ≤ x
  pub passed : slice_index memory.passed p ≤ x

-- nothing is left of a memory, or the part of it that came no further
abbrev pub IsPartWithin : Option FailedClimb → ℕ → ℕ → Option FailedClimb → Type 0
IsPartWithin old p x new =
    (new ≡ None) ⊎ ((memory : FailedClimb) × (old ≡ Some memory) × (new ≡ Some (part_of memory)) × (slice_index memory.passed p ≤ x))

-- what is left of the memories came no further, at a process, than to an interval
abbrev pub IsWithout : ℕ → List (Option FailedClimb) → List (Option FailedClimb) → ℕ → ℕ → Type 0
IsWithout n old new p x =
    (q : ℕ) → q < n → IsPartWithin (slice_index_or old q None) p x (slice_index_or new q None)
    ⊎ ((slice_index_or new q None ≡ slice_index_or old q None) × MatchOption (slice_index_or old q None) ⊤ (IsUpTo p x))
