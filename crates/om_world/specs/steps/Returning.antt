-- What the calls of a return do.
use Rattle.std.specs.Prelude.{◌≡◌, ℕ, ◌<◌, List, [], slice_get, slice_index, slice_set, Bool, true, false, Option, Some, Result, Ok, Err}
use Rattle.om_interval.specs.Starts.{is_named, newest_of}
use Rattle.om_stable.specs.Content.{Content, kept_by_cut}
use Rattle.om_process.specs.declared.replay.ReplayFault.{ReplayFault}
use Rattle.om_process.specs.declared.replay.ReplayFault.TheVariants.{Fault}
use Rattle.om_process.specs.Core.{CoreState, cluster_size}
use Rattle.om_process.specs.Resumes.{resumed}
use Rattle.om_process.specs.Stored.{CanReplay, IsNoMatterOfContent, IsReplay, the_process}
use Rattle.om_manager.specs.State.{ManagerState, process_count}
use Rattle.om_world.specs.declared.process_state.ProcessState.{ProcessState}
use Rattle.om_world.specs.Changes.{HasFailed, NoneFell}
use Rattle.om_world.specs.Failures.{HasNews, IsToComeBack, IsToGoOn, put_up, taken_down}
use Rattle.om_world.specs.World.{WorldState, IsKnown, all_clean, recovered}

-- a core of process p that keeps nothing volatile, and knows what the last round said of it
pub record IsBackIn (m : ManagerState) (p : ℕ) (core : CoreState) : Type 0 where
  pub own : core.own ≡ p
  pub size : cluster_size core.now ≡ process_count m
  pub log : core.log ≡ []
  pub pending : core.pending ≡ []
  pub inc : core.inc ≡ newest_of m.starts p
  pub round : core.round ≡ m.round
  pub starts : core.starts ≡ m.starts

-- a process was replayed to where the last round cut it, and its store is cut to there; or its store stays
abbrev pub IsRolledBack : ManagerState → ℕ → Result CoreState ReplayFault → Content → Content → Type 0
IsRolledBack m p (Ok core) before after =
    IsReplay before (slice_index m.last p) core × (after ≡ kept_by_cut before (slice_index m.last p))
IsRolledBack m p (Err fault) before after =
    (after ≡ before) × (CanReplay (the_process p (process_count m)) before (slice_index m.last p) → IsNoMatterOfContent fault)

-- a process that was down is up again with this core, and its store is cut
pub record HasComeBack (old : WorldState) (p : ℕ) (core : CoreState) (new : WorldState) : Type 0 where
  pub back : IsBackIn old.manager p core
  pub others : new ≡ record (put_up old p core) { contents = new.contents; health = new.health }
  pub was_clean : all_clean new.health ≡ true → all_clean old.health ≡ true
  pub counts : NoneFell old.health new.health
  pub did : IsKnown new → (before : Content) × (slice_get old.contents p ≡ Some before)
      × IsReplay before (slice_index old.manager.last p) core × (core.now.interval ≡ slice_index old.manager.last p)
      × (new.contents ≡ slice_set old.contents p (kept_by_cut before (slice_index old.manager.last p)))

-- it did not come back, and all stays
pub record StaysDown (old : WorldState) (p : ℕ) (fault : ReplayFault) (new : WorldState) : Type 0 where
  pub others : new ≡ record old { contents = new.contents; health = new.health }
  pub was_clean : all_clean new.health ≡ true → all_clean old.health ≡ true
  pub same : IsKnown new → new.contents ≡ old.contents
  pub why : IsKnown new → IsNoMatterOfContent fault
  pub counted : fault ≡ Fault → HasFailed old p new
  pub counts : NoneFell old.health new.health

-- a process that was down is up again, in this interval and incarnation; or it is not
abbrev pub Returns : WorldState → ℕ → Result (ℕ × ℕ) ReplayFault → WorldState → Type 0
Returns old p (Ok place) new =
    (core : CoreState) × HasComeBack old p core new × (place.0 ≡ core.now.interval) × (place.1 ≡ core.inc)
Returns old p (Err fault) new = StaysDown old p fault new

-- a process that is in is down; of another all stays
abbrev pub HasLeft : WorldState → ℕ → WorldState → Type 0
HasLeft old p new =
    (slice_get old.places p ≡ Some ProcessState.In → new ≡ taken_down old p false)
    × ((slice_get old.places p ≡ Some ProcessState.In → ⊥) → new ≡ old)

-- the core at this place knows the manager's round and starts, and no other core changes
abbrev pub KnowsRound : List (Option CoreState) → ℕ → ManagerState → List (Option CoreState) → Type 0
KnowsRound old p m new =
    (c : CoreState) × (slice_get old p ≡ Some (Some c)) × (new ≡ slice_set old p (Some (resumed c m.round m.starts)))

-- a process is to come up again: rolled back, or as it was
abbrev pub IsDue : WorldState → ℕ → Bool → Type 0
IsDue w p true = IsToComeBack w p
IsDue w p false = IsToGoOn w p

-- whom the last round rolls back without a failure was beyond its place of the recovery state
abbrev pub IsBeyond : WorldState → ℕ → Type 0
IsBeyond w p = (c : CoreState) → slice_get w.places p ≡ Some ProcessState.In → slice_get w.cores p ≡ Some (Some c) → HasNews w p
    → is_named w.manager.backs p ≡ true → recovered w.manager p < c.now.interval
