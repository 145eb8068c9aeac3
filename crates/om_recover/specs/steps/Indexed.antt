use Rattle.std.specs.Prelude.{◌≡◌, ℕ, ◌<◌, List, Option, Bool, true, false}
use Rattle.std.specs.FinSet as set
use Rattle.om_recover.specs.Rows.{Rows, IsLawful}
use Rattle.om_recover.specs.Recoverable.{IsStable, IsRecoverable, IsGreatest}
use Rattle.om_recover.specs.Attempts.{Attempt}
use Rattle.om_recover.specs.Counted.{IsCounted}
use Rattle.om_recover.specs.steps.Memory.{AreRemembered}
use Rattle.om_recover.specs.declared.search.failed_climbs.FailedClimb.{FailedClimb}
use Rattle.om_recover.specs.declared.row.Row.{Row}

-- the row's interval is not stable, and is once the row is added
pub record MakesStable (rows : Rows) (row : Row) : Type 0 where
  pub before : IsStable rows row.pid row.interval → ⊥
  pub after : IsStable (set.insert rows row) row.pid row.interval

-- no interval becomes stable where the row is added
abbrev pub MakesNothingStable : Rows → Row → Type 0
MakesNothingStable rows row = (y : ℕ) → IsStable (set.insert rows row) row.pid y → IsStable rows row.pid y

-- a row was added to lawful rows of which the state was the greatest, and made its interval stable where that is said
pub record IsAdded (n : ℕ) (before after : Rows) (row : Row) (state : List ℕ) (is_new : Bool) : Type 0 where
  pub added : after ≡ set.insert before row
  pub lawful : IsLawful n after
  pub greatest : IsGreatest n before state
  pub still : IsRecoverable n after state
  pub process : row.pid < n
  pub new : is_new ≡ true → MakesStable before row
  pub old : is_new ≡ false → MakesNothingStable before row

-- the rows are those before with the row, and what was remembered then is
abbrev pub IsRaisable : ℕ → Rows → Row → List ℕ → Bool → List (Option FailedClimb) → Type 0
IsRaisable n after row state is_new places = (before : Rows) × IsAdded n before after row state is_new × AreRemembered n before state places

-- whatever the rows before were, the attempts are those of a note
abbrev pub IsCountedFrom : ℕ → Rows → Row → List ℕ → Bool → List ℕ → List Attempt → List Attempt → Type 0
IsCountedFrom n after row state is_new raised old new =
    (before : Rows) → IsAdded n before after row state is_new → IsCounted n before after row.pid state raised old new
