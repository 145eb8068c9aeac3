-- What rows of one process that were added leave to a search.
use Rattle.std.specs.Prelude.{◌≡◌, ℕ, ◌<◌, ◌≤◌, List, Option, None, Some, MatchOption, max, min, slice_index}
use Rattle.om_recover.specs.Rows.{Rows, HasRow, IsLawful}
use Rattle.om_recover.specs.Recoverable.{IsStable, IsRecoverable, IsGreatest}
use Rattle.om_recover.specs.Attempts.{Attempt}
use Rattle.om_recover.specs.Counted.{IsLeastNew, IsNewAbove, IsCountedAtOnce}
use Rattle.om_recover.specs.steps.Memory.{AreRemembered}
use Rattle.om_recover.specs.declared.search.failed_climbs.FailedClimb.{FailedClimb}
use Rattle.om_recover.specs.declared.search.fresh.Fresh.{Fresh}

-- the rows are those before, and others of the process
pub record AreMoreOf (before after : Rows) (p : ℕ) : Type 0 where
  pub kept : (row : _) → HasRow before row → HasRow after row
  pub others : (row : _) → HasRow after row → (row.pid ≡ p → ⊥) → HasRow before row

-- no interval of the process became stable above the floor
abbrev pub HasNoneFresh : Rows → Rows → ℕ → ℕ → Type 0
HasNoneFresh before after p floor = (y : ℕ) → IsStable after p y → floor < y → IsStable before p y

-- of the intervals of the process that became stable above the floor, the least, and one that is no lower
pub record IsFresh (before after : Rows) (p floor : ℕ) (fresh : Fresh) : Type 0 where
  pub least : IsLeastNew before after p floor fresh.least
  pub high : IsNewAbove before after p floor fresh.high
  pub order : fresh.least ≤ fresh.high

abbrev pub TellsFresh : Rows → Rows → ℕ → ℕ → Option Fresh → Type 0
TellsFresh before after p floor told = MatchOption told (HasNoneFresh before after p floor) (IsFresh before after p floor)

-- rows of a process were added to others, which are lawful then, and this became stable above its place of the state
pub record AreAdded (n : ℕ) (before after : Rows) (p : ℕ) (state : List ℕ) (told : Option Fresh) : Type 0 where
  pub lawful : IsLawful n after
  pub still : IsRecoverable n after state
  pub more : AreMoreOf before after p
  pub fresh : TellsFresh before after p (slice_index state p) told

-- with one interval more
abbrev pub fresh_with : Option Fresh → ℕ → Fresh
fresh_with None x = record { least = x; high = x }
fresh_with (Some fresh) x = record { least = min fresh.least x; high = max fresh.high x }

-- the rows are those before, of which the state was the greatest, with some of a process, and what was remembered then is
pub record AreRaisable (n : ℕ) (before after : Rows) (p : ℕ) (state : List ℕ) (told : Option Fresh) (places : List (Option FailedClimb)) : Type 0 where
  pub greatest : IsGreatest n before state
  pub added : AreAdded n before after p state told
  pub remembered : AreRemembered n before state places

-- whatever the rows before were, the attempts are those of a note of several rows
abbrev pub IsCountedAtOnceFrom : ℕ → Rows → ℕ → List ℕ → Option Fresh → List ℕ → List Attempt → List Attempt → Type 0
IsCountedAtOnceFrom n after p state told raised old new =
    (before : Rows) → TellsFresh before after p (slice_index state p) told → IsCountedAtOnce n before after p state raised old new
