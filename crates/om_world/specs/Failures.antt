-- What failures, gatherings and returns do to a world.
use Rattle.std.specs.Prelude.{◌≡◌, ◌≢◌, ◌⊎◌, ℕ, ◌<◌, ◌≤◌, List, [], length, slice_get, slice_set, slice_index, Bool, true, false, None, Some}
use Rattle.om_interval.specs.Starts.{is_named, newest_of}
use Rattle.om_stable.specs.Content.{Content, kept_by_cut}
use Rattle.om_process.specs.Core.{CoreState, with_pending}
use Rattle.om_process.specs.Resumes.{resumed}
use Rattle.om_process.specs.Stored.{IsReplay}
use Rattle.om_process.specs.Stores.{flushed}
use Rattle.om_manager.specs.Rounds.{Gathers, with_presence}
use Rattle.om_manager.specs.State.{ManagerState, held_by}
use Rattle.om_manager.specs.declared.answers.Gathered.{Gathered}
use Rattle.om_manager.specs.declared.presence.Presence.TheVariants as presences
use Rattle.om_manager.specs.declared.answers.Gathered.TheVariants.{Waiting, Finished}
use Rattle.om_world.specs.declared.entry.Entry.{Entry}
use Rattle.om_world.specs.declared.process_state.ProcessState.{ProcessState}
use Rattle.om_member.specs.declared.batch.Batch.TheVariants.{Log}
use Rattle.om_member.specs.Told.{AreTold}
use Rattle.om_world.specs.Changes.{Changes, HasStored, HoldsMore, IsSame, IsUp, made_by}
use Rattle.om_world.specs.Live.{cut_list}
use Rattle.om_world.specs.World.{SinceState, WorldState, recovered}

-- a round is finished that is newer than those that the process knew when it was last up
abbrev pub HasNews : WorldState → ℕ → Type 0
HasNews w p = slice_index w.rounds p < w.manager.round

-- the process is down: its core is gone
abbrev pub taken_down : WorldState → ℕ → Bool → WorldState
taken_down w p declared = record w { cores = slice_set w.cores p None; places = slice_set w.places p (ProcessState.Down declared) }

-- the process is up again, and knows the last round
abbrev pub put_up : WorldState → ℕ → CoreState → WorldState
put_up w p core = record w {
  cores = slice_set w.cores p (Some core);
  places = slice_set w.places p ProcessState.Up;
  rounds = slice_set w.rounds p w.manager.round;
}

-- what was received, once the manager has taken a failure or a join: a finished round cuts it to the recovery state
abbrev pub live_after : Gathered → ManagerState → List Entry → List Entry
live_after Waiting m live = live
live_after Finished m live = cut_list m.recovery live

-- a finished round begins anew what is kept of it
abbrev pub since_after : Gathered → List Entry → SinceState → SinceState
since_after Waiting live since = since
since_after Finished live since = record { before = live; stored = false }

-- the manager has taken a failure or a join
abbrev pub gathered : WorldState → Gathered → ManagerState → WorldState
gathered w answer m = record w { live = live_after answer w.manager w.live; manager = m; since = since_after answer w.live w.since }

-- ---- a failure
-- a failure is to be declared: the process is up; or in, and the gathering that it joined is open; or down, where its declaration was
-- refused and no newer round is finished
pub data IsToDeclare (w : WorldState) (p : ℕ) : Type 0 where
  up : IsUp w p → IsToDeclare w p
  joined : slice_get w.places p ≡ Some ProcessState.In → (HasNews w p → ⊥) → IsToDeclare w p
  refused : slice_get w.places p ≡ Some (ProcessState.Down false) → (HasNews w p → ⊥) → IsToDeclare w p

-- the manager refused the declaration for this: the process is down all the same
abbrev pub FailRefused : Type 0 → WorldState → ℕ → WorldState → Type 0
FailRefused Why old p new = IsToDeclare old p × Why × (new ≡ taken_down old p false)

-- the process is down, and its failure was declared, or a newer round is finished
abbrev pub IsDeclared : WorldState → ℕ → Type 0
IsDeclared w p = (declared : Bool) × (slice_get w.places p ≡ Some (ProcessState.Down declared)) × ((declared ≡ true) ⊎ HasNews w p)

-- ---- a join
-- the process stored its log, all its pending rows are noted, and outputs of it are handed in
pub record HasHanded (old : WorldState) (p : ℕ) (core : CoreState) (new : WorldState) : Type 0 where
  pub changes : Changes old p core (with_pending (flushed core) []) new
  pub stored : HasStored Log old p core new
  pub told : ManagerState
  pub noted : AreTold old.manager old.manager.round p (flushed core).pending told
  pub handed : HoldsMore told p new.manager
  pub frames : new.frames ≡ old.frames

-- the process is in: its log is stored, nothing of it is pending, and its outputs had all been handed in when it joined
pub record JoinHappened (old : WorldState) (p : ℕ) (answer : Gathered) (new : WorldState) : Type 0 where
  pub opened : old.manager.gathering ≢ None
  pub core : CoreState
  pub ready : WorldState
  pub handed : HasHanded old p core ready
  pub all : made_by core ≤ length (held_by ready.manager p)
  pub manager : Gathers (with_presence ready.manager p (presences.Joined core.now.interval)) ready.manager answer new.manager
  pub others : new ≡ gathered (record ready { places = slice_set ready.places p ProcessState.In }) answer new.manager

-- ---- a return
-- a newer round is finished, and the process comes back in it: it is down, or in and rolled back
pub data IsToComeBack (w : WorldState) (p : ℕ) : Type 0 where
  down : (declared : Bool) → slice_get w.places p ≡ Some (ProcessState.Down declared) → HasNews w p → IsToComeBack w p
  rolled_back : slice_get w.places p ≡ Some ProcessState.In → HasNews w p → is_named w.manager.backs p ≡ true → IsToComeBack w p

-- a process is back where the round cut it to, replayed from its store, which is cut to there, and keeps nothing volatile; it is rolled back without a failure only
-- where it was beyond its place of the recovery state
pub record BackHappened (old : WorldState) (p interval inc : ℕ) (new : WorldState) : Type 0 where
  pub due : IsToComeBack old p
  pub beyond : (c : CoreState) → slice_get old.places p ≡ Some ProcessState.In → slice_get old.cores p ≡ Some (Some c)
      → recovered old.manager p < c.now.interval
  pub place : interval ≡ slice_index old.manager.last p
  pub newest : inc ≡ newest_of old.manager.starts p
  pub core : CoreState
  pub at : core.now.interval ≡ interval
  pub rest : core ≡ record { own = p; now = core.now; log = []; pending = []; inc = inc; round = old.manager.round; starts = old.manager.starts }
  pub before : Content
  pub is_before : slice_get old.contents p ≡ Some before
  pub replay : IsReplay before interval core
  pub contents : new.contents ≡ slice_set old.contents p (kept_by_cut before interval)
  pub others : new ≡ record (put_up old p core) { contents = new.contents; health = new.health }

-- a newer round is finished, and the process is in and not rolled back
pub record IsToGoOn (w : WorldState) (p : ℕ) : Type 0 where
  pub joined : slice_get w.places p ≡ Some ProcessState.In
  pub news : HasNews w p
  pub kept : is_named w.manager.backs p ≡ false

-- a process goes on as it was, and knows the round and its starts
abbrev pub HasGoneOn : WorldState → ℕ → WorldState → Type 0
HasGoneOn old p new =
    (c : CoreState) × (slice_get old.cores p ≡ Some (Some c)) × (new ≡ put_up old p (resumed c old.manager.round old.manager.starts))

-- a store failed, or memory was refused: a process that was to be rolled back is down, and no other changes
abbrev pub BackStopped : WorldState → ℕ → WorldState → Type 0
BackStopped old p new =
    IsToComeBack old p × (((declared : Bool) × (slice_get old.places p ≡ Some (ProcessState.Down declared)) × IsSame old new)
    ⊎ ((slice_get old.places p ≡ Some ProcessState.In) × IsSame (taken_down old p false) new))
