-- A manager that starts anew, and what it is told beside what stores held: that each process failed.
use Rattle.std.specs.Prelude.{◌≡◌, ◌≢◌, ◌↔◌, ℕ, ◌<◌, List, [], ◌∷◌, replicate, None, false}
use Rattle.om_interval.specs.declared.pid.TheConstants.{MAX_PROCESSES}
use Rattle.om_manager.specs.Gatherings.{AreAllIn, presence_of, presences_of}
use Rattle.om_manager.specs.Rounds.{Finishes}
use Rattle.om_manager.specs.Sound.{IsManager}
use Rattle.om_manager.specs.State.{ManagerState, process_count}
use Rattle.om_manager.specs.declared.presence.Presence.{Presence}
use Rattle.om_manager.specs.declared.presence.Presence.TheVariants.{Away, Failed}
use Rattle.om_recover.specs.Records.{first_row}
use Rattle.om_recover.specs.Rows.{HasRow}
use Rattle.om_recover.specs.declared.row.Row.{Row}

-- the manager of n processes at their start: checkpoint 0 of each, and nothing else
pub record IsNew (n : ℕ) (m : ManagerState) : Type 0 where
  pub rows : (row : Row) → HasRow m.rows row ↔ ((row.pid < n) × (row ≡ first_row n row.pid))
  pub recovery : m.recovery ≡ replicate n 0
  pub outputs : m.outputs ≡ replicate n []
  pub starts : m.starts ≡ replicate n (0 ∷ [])
  pub round : m.round ≡ 0
  pub gathering : m.gathering ≡ None
  pub last : m.last ≡ replicate n 0
  pub backs : m.backs ≡ replicate MAX_PROCESSES false
  pub version : m.version ≡ 0

-- a manager of n processes that has finished no round, each process in its first incarnation
pub record IsFirst (n : ℕ) (m : ManagerState) : Type 0 where
  pub size : process_count m ≡ n
  pub starts : m.starts ≡ replicate n (0 ∷ [])
  pub round : m.round ≡ 0

-- no process has joined or failed, and no round is finished
pub record IsBefore (m : ManagerState) : Type 0 where
  pub gathering : m.gathering ≡ None
  pub round : m.round ≡ 0

-- who is in is one of n processes, and has failed
abbrev pub OnlyFailed : ℕ → List Presence → Type 0
OnlyFailed n presences = (p : ℕ) → presence_of presences p ≢ Away → (p < n) × (presence_of presences p ≡ Failed)

-- each process has failed, one after another, and with the last the round is finished
pub record EachFailed (old new : ManagerState) : Type 0 where
  -- before the last
  pub before : ManagerState
  pub others : before ≡ record old { gathering = before.gathering; version = before.version }
  pub sound : IsManager before
  pub waiting : OnlyFailed (process_count old) (presences_of before.gathering)
  -- with the last
  pub presences : List Presence
  pub failed : OnlyFailed (process_count old) presences
  pub all : AreAllIn (process_count old) presences
  pub finished : Finishes presences before new
