use Rattle.std.specs.Prelude.{◌≡◌, ◌≢◌, ℕ, ◌+◌, ◌-◌, ◌<◌, ◌≤◌, ◌^◌, List, length, slice_index, slice_set, None, Some, Result, Ok, Err}
use Rattle.om_interval.specs.Starts.{is_named, BeginIncarnations}
use Rattle.om_recover.specs.Cutting.{cut_to}
use Rattle.om_manager.specs.Gatherings.{presence_of, presences_of, AreAllIn, begins}
use Rattle.om_manager.specs.Notes.{IsCurrent}
use Rattle.om_manager.specs.State.{ManagerState, process_count, held_by, released_by, open_count}
use Rattle.om_manager.specs.declared.presence.Presence.{Presence}
use Rattle.om_manager.specs.declared.presence.Presence.TheVariants.{Away, Failed, Joined}
use Rattle.om_manager.specs.declared.answers.Gathered.{Gathered}
use Rattle.om_manager.specs.declared.answers.Gathered.TheVariants.{Waiting, Finished}
use Rattle.om_manager.specs.declared.answers.FailError.{FailError}
use Rattle.om_manager.specs.declared.answers.FailError.TheVariants as failing
use Rattle.om_manager.specs.declared.answers.JoinError.{JoinError}
use Rattle.om_manager.specs.declared.answers.JoinError.TheVariants as joining

-- a gathering of these is open; to open it is a new version
abbrev pub gathering_with : ManagerState → List Presence → ManagerState
gathering_with m presences = record m { gathering = Some presences; version = m.version + 1 - open_count m.gathering }

-- the round is finished with these in: rows and outputs are cut to the recovery state, and each process that failed or
-- was beyond it begins an incarnation right above it
pub record Finishes (presences : List Presence) (old new : ManagerState) : Type 0 where
  pub rows : new.rows ≡ cut_to old.rows old.recovery
  pub recovery : new.recovery ≡ old.recovery
  pub places : length new.outputs ≡ length old.outputs
  pub outputs : (p : ℕ) → p < process_count old → held_by new p ≡ released_by old p
  pub begin : BeginIncarnations new.backs old.recovery old.starts new.starts
  pub backs : (p : ℕ) → p < process_count old → is_named new.backs p ≡ begins (presence_of presences p) (slice_index old.recovery p)
  pub last : new.last ≡ old.recovery
  pub round : new.round ≡ old.round + 1
  pub closed : new.gathering ≡ None
  pub version : new.version ≡ old.version + 1

-- the manager where these are in now: the round is finished exactly where all are
abbrev pub Gathers : List Presence → ManagerState → Gathered → ManagerState → Type 0
Gathers presences old Waiting new = (AreAllIn (process_count old) presences → ⊥) × (new ≡ gathering_with old presences)
Gathers presences old Finished new = AreAllIn (process_count old) presences × Finishes presences old new

-- who is in after a failure or a join: those before, and the process as failed, or as joined in its interval
abbrev pub with_presence : ManagerState → ℕ → Presence → List Presence
with_presence m p presence = slice_set (presences_of m.gathering) p presence

-- a failure is taken: for the first time in this gathering, or once more
pub data Fails (old : ManagerState) (pid : ℕ) (answer : Gathered) (new : ManagerState) : Type 0 where
  first : presence_of (presences_of old.gathering) pid ≢ Failed → Gathers (with_presence old pid Failed) old answer new
      → Fails old pid answer new
  again : presence_of (presences_of old.gathering) pid ≡ Failed → answer ≡ Waiting → new ≡ old → Fails old pid answer new

-- there can be no further round, and none is open
pub record IsSpent (m : ManagerState) : Type 0 where
  pub last_round : m.round ≡ 2 ^ 32 - 1
  pub closed : m.gathering ≡ None

-- the answer to a failure that is declared, and the manager after it
abbrev pub Failing : ManagerState → ℕ → ℕ → Result Gathered FailError → ManagerState → Type 0
Failing old pid round (Ok answer) new = IsCurrent old pid round × (IsSpent old → ⊥) × Fails old pid answer new
Failing old pid round (Err failing.Stranger) new = (process_count old ≤ pid) × (new ≡ old)
Failing old pid round (Err (failing.Stale told)) new = (pid < process_count old) × (round ≢ old.round) × (told ≡ old.round) × (new ≡ old)
Failing old pid round (Err failing.Spent) new = IsCurrent old pid round × IsSpent old × (new ≡ old)
Failing old pid round (Err failing.Memory) new =
    IsCurrent old pid round × (IsSpent old → ⊥) × (presence_of (presences_of old.gathering) pid ≢ Failed)
    × AreAllIn (process_count old) (with_presence old pid Failed) × (new ≡ old)

-- a process may join: a gathering is open, and it is not in
pub record MayJoin (m : ManagerState) (pid round : ℕ) : Type 0 where
  pub current : IsCurrent m pid round
  pub gathers : m.gathering ≢ None
  pub away : presence_of (presences_of m.gathering) pid ≡ Away

-- the answer to a process that joins, and the manager after it
abbrev pub Joining : ManagerState → ℕ → ℕ → ℕ → Result Gathered JoinError → ManagerState → Type 0
Joining old pid round current (Ok answer) new = MayJoin old pid round × Gathers (with_presence old pid (Joined current)) old answer new
Joining old pid round current (Err joining.Stranger) new = (process_count old ≤ pid) × (new ≡ old)
Joining old pid round current (Err (joining.Stale told)) new =
    (pid < process_count old) × (round ≢ old.round) × (told ≡ old.round) × (new ≡ old)
Joining old pid round current (Err joining.NoRound) new = IsCurrent old pid round × (old.gathering ≡ None) × (new ≡ old)
Joining old pid round current (Err joining.Joined) new =
    IsCurrent old pid round × (old.gathering ≢ None) × (presence_of (presences_of old.gathering) pid ≢ Away) × (new ≡ old)
Joining old pid round current (Err joining.Memory) new =
    MayJoin old pid round × AreAllIn (process_count old) (with_presence old pid (Joined current)) × (new ≡ old)
