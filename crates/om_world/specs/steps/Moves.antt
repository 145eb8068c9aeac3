-- What a call makes of the cores.
use Rattle.std.specs.Prelude.{◌≡◌, ℕ, ◌≤◌, List, length, drop, slice_get, slice_set, Bool, true, false, IsTrue, Option, None, Some, Result, Ok, Err, IfErr}
use Rattle.om_stable.specs.Content.{Content}
use Rattle.om_stable.specs.Count.{Rose}
use Rattle.om_stable.specs.declared.error.StoreError.{StoreError}
use Rattle.om_stable.specs.declared.error.StoreError.TheVariants.{Present}
use Rattle.om_stable.specs.declared.error.StoreError.TheVariants as store_errors
use Rattle.om_manager.specs.Sound.{KeepsReleased}
use Rattle.om_manager.specs.State.{process_count}
use Rattle.om_recover.specs.declared.note.NoteError.TheVariants as refusals
use Rattle.om_manager.specs.declared.answers.RecordError.{RecordError}
use Rattle.om_manager.specs.declared.answers.FailError.{FailError}
use Rattle.om_manager.specs.declared.answers.FailError.TheVariants as failing
use Rattle.om_manager.specs.declared.answers.JoinError.{JoinError}
use Rattle.om_manager.specs.declared.answers.JoinError.TheVariants as joining
use Rattle.om_process.specs.declared.replay.ReplayFault.{ReplayFault}
use Rattle.om_process.specs.declared.replay.ReplayFault.TheVariants as replays
use Rattle.om_manager.specs.declared.answers.RecordError.TheVariants.{Refused}
use Rattle.om_world.specs.World.{Health, SinceState, WorldState, IsKnown, all_clean}
use Rattle.om_format.specs.declared.message.Message.{Message}
use Rattle.om_process.specs.declared.accept.Accept.{Accept}
use Rattle.om_process.specs.declared.accept.Accept.TheVariants as accepts
use Rattle.om_process.specs.declared.turns.RunEnd.{RunEnd}
use Rattle.om_process.specs.Accepts.{Answers, taken}
use Rattle.om_world.specs.declared.event.Answer.{Answer}
use Rattle.om_world.specs.declared.event.Answer.TheVariants as answers
use Rattle.om_world.specs.declared.event.Event.{Event}
use Rattle.om_world.specs.declared.event.Refusal.{Refusal}
use Rattle.om_world.specs.declared.event.Refusal.TheVariants as why
use Rattle.om_process.specs.Core.{CoreState, CoreTurns, with_now, with_pending, RunsTo}
use Rattle.om_world.specs.Changes.{HasFailed, NoneFell, has_rows, has_stored, stored}
use Rattle.om_member.specs.declared.batch.Batch.{Batch}
use Rattle.om_member.specs.declared.batch.Batch.TheVariants.{Checkpoint, First, Log}
use Rattle.om_member.specs.declared.member.NotUp.{NotUp}
pub use Rattle.om_member.specs.Members.{Gained, after_store, trimmed_core}
pub use Rattle.om_member.specs.Told.{AreTold, IsTold, IsToldUpTo}

-- there is a core at this place
abbrev pub HasCore : List (Option CoreState) → ℕ → Type 0
HasCore cores p = (c : CoreState) × (slice_get cores p ≡ Some (Some c))

-- the core at this place takes some turns, and no other core changes
pub record TakesTurnsAt (old : List (Option CoreState)) (p fuel : ℕ) (new : List (Option CoreState)) : Type 0 where
  pub before : CoreState
  pub after : CoreState
  pub there : slice_get old p ≡ Some (Some before)
  pub turns : (k : ℕ) × (k ≤ fuel) × CoreTurns k before after
  pub rest : after ≡ with_now before after.now
  pub size : length after.now.vec ≡ length before.now.vec
  pub cores : new ≡ slice_set old p (Some after)

-- and it has run
abbrev pub HasRunAt : List (Option CoreState) → ℕ → ℕ → RunEnd → List (Option CoreState) → Type 0
HasRunAt old p fuel ran new =
    (c : CoreState) × (d : CoreState) × (slice_get old p ≡ Some (Some c)) × RunsTo c fuel ran.steps ran.status d
    × (new ≡ slice_set old p (Some d))

-- the cores after one was offered a message, by its answer
abbrev pub after_offer : List (Option CoreState) → ℕ → CoreState → Message → Accept → List (Option CoreState)
after_offer old p c m (accepts.Taken x) = slice_set old p (Some (taken c m))
after_offer old p c m answer = old

-- the core at this place answers to a message
pub record IsOfferedAt (old : List (Option CoreState)) (p : ℕ) (m : Message) (answer : Accept) (new : List (Option CoreState)) : Type 0 where
  pub core : CoreState
  pub there : slice_get old p ≡ Some (Some core)
  pub answers : Answers core m answer
  pub cores : new ≡ after_offer old p core m answer

-- what is told of an event
abbrev pub answered : Result Answer Refusal → Answer
answered (Ok answer) = answer
answered (Err why) = answers.Refused why

-- what is told of an act of a process, by what came of it: of a process that is not up, just that
abbrev pub told_of : {T E : Type 0} → (E → Refusal) → Result (Result T E) NotUp → Result T Refusal
told_of refusal (Ok (Ok value)) = Ok value
told_of refusal (Ok (Err fault)) = Err (refusal fault)
told_of refusal (Err not_up) = Err why.NotUp

-- how many rows were noted, where none was refused
abbrev pub count_of : ℕ → Result (Unit {0}) RecordError → Result ℕ RecordError
count_of count (Ok done) = Ok count
count_of count (Err fault) = Err fault

-- ---- stores
-- one of the stores took a call, which did this to its content; where the call failed, the store counts it
pub record IsCalled {S : Type 0} (content : S → Content) (health : S → Health) (IsSound : S → Type 0) (Failed : Type 0)
    (old new : List S) (p : ℕ) (Did : Content → Content → Type 0) : Type 0 where
  pub before : S
  pub after : S
  pub there : slice_get old p ≡ Some before
  pub stores : new ≡ slice_set old p after
  pub counted : Failed → Rose (health before).failed (health after).failed
  pub count : (health before).failed ≤ (health after).failed
  pub clean : IsTrue (health after).clean → IsTrue (health before).clean
  pub sound : IsTrue (health after).clean → IsSound before → IsSound after
  pub did : IsTrue (health after).clean → IsSound before → Did (content before) (content after)

-- ---- the manager
-- receipts of the log
abbrev pub IsOfLog : Batch → Type 0
IsOfLog Checkpoint = ⊥
IsOfLog batch = Unit {0}

-- what is kept of the last finished round, once a store was called
abbrev pub since_called : Batch → CoreState → Result (Unit {0}) StoreError → SinceState → SinceState
since_called kind c (Ok done) since = has_stored (has_rows (stored kind c).pending) since
since_called kind c (Err other) since = since

-- the same by what is told of the call, and by whether rows are pending behind it
abbrev pub since_told : Bool → Result (Unit {0}) Refusal → SinceState → SinceState
since_told rows (Ok done) since = has_stored rows since
since_told rows (Err other) since = since

-- whether rows of a process are pending
abbrev pub rows_of : Option CoreState → Bool
rows_of None = false
rows_of (Some c) = has_rows c.pending

-- where rows of the process are pending, it is kept that a process has stored
pub record TellsStored (w : WorldState) (p : ℕ) : Type 0 where
  pub tells : (c : CoreState) → slice_get w.cores p ≡ Some (Some c) → has_rows c.pending ≡ true → w.since.stored ≡ true

-- a process stored a batch of what it keeps, or its store refused; a log's receipts are never there already
pub record HasCalled (kind : Batch) (old : WorldState) (p : ℕ) (answer : Result (Unit {0}) StoreError) (new : WorldState) : Type 0 where
  pub core : CoreState
  pub there : slice_get old.cores p ≡ Some (Some core)
  pub others : new ≡ record old {
    cores = slice_set old.cores p (Some (after_store kind core answer));
    contents = new.contents;
    health = new.health;
    since = new.since;
  }
  pub since : new.since ≡ since_called kind core answer old.since
  pub did : IsKnown new → (before : Content) × (after : Content) × (slice_get old.contents p ≡ Some before)
      × (new.contents ≡ slice_set old.contents p after) × Gained kind core answer before after
  pub was_clean : all_clean new.health ≡ true → all_clean old.health ≡ true
  pub counted : answer ≡ Err store_errors.Fault → HasFailed old p new
  pub counts : NoneFell old.health new.health
  pub free : IsKnown new → IsOfLog kind → answer ≡ Err Present → ⊥

-- the pending rows of a process were offered up to the first that was refused, which was for want of memory
pub record HasTold (old : WorldState) (p count : ℕ) (end : Result (Unit {0}) RecordError) (new : WorldState) : Type 0 where
  pub core : CoreState
  pub there : slice_get old.cores p ≡ Some (Some core)
  pub told : IsToldUpTo old.manager core.round p core.pending count end new.manager
  pub others : new ≡ record old {
    cores = slice_set old.cores p (Some (with_pending core (drop count core.pending)));
    manager = new.manager;
  }
  pub memory : IsKnown old → IfErr end (λ fault. fault ≡ Refused refusals.Memory)

-- the event that stores a batch
abbrev pub event_of : Batch → ℕ → Event
event_of Log p = Event.Flush p
event_of (First k) p = Event.FlushFirst p k
event_of Checkpoint p = Event.Checkpoint p

-- what each event leaves: what was released still is; where what the stores hold is known, it was; and counts do not fall
pub record Keeps (old new : WorldState) : Type 0 where
  pub size : process_count new.manager ≡ process_count old.manager
  pub released : KeepsReleased old.manager new.manager
  pub clean : all_clean new.health ≡ true → all_clean old.health ≡ true
  pub counts : NoneFell old.health new.health
  pub origins : new.origins ≡ old.origins

-- what an event that a store or the manager refused is answered
abbrev pub refusal_of_store : StoreError → Refusal
refusal_of_store store_errors.Present = why.Present
refusal_of_store store_errors.Fault = why.Fault
refusal_of_store store_errors.Memory = why.Memory

abbrev pub refusal_of_record : RecordError → Refusal
refusal_of_record (Refused refusals.Memory) = why.Memory
refusal_of_record fault = why.Damaged

abbrev pub refusal_of_failure : FailError → Refusal
refusal_of_failure failing.Spent = why.Spent
refusal_of_failure failing.Memory = why.Memory
refusal_of_failure fault = why.Damaged

abbrev pub refusal_of_join : JoinError → Refusal
refusal_of_join joining.NoRound = why.NoRound
refusal_of_join joining.Memory = why.Memory
refusal_of_join fault = why.Damaged

abbrev pub refusal_of_replay : ReplayFault → Refusal
refusal_of_replay replays.Fault = why.Fault
refusal_of_replay replays.Memory = why.Memory
refusal_of_replay other = why.Damaged
