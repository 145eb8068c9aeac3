-- What the calls of failures and joins do.
use Rattle.std.specs.Prelude.{◌≡◌, ◌≢◌, ℕ, List, slice_get, slice_set, true, None, Some, Option, Result, IfOk, IfErr, OnErr}
use Rattle.om_process.specs.Core.{CoreState}
use Rattle.om_manager.specs.Gatherings.{AreAllIn}
use Rattle.om_manager.specs.Rounds.{Gathers, IsSpent}
use Rattle.om_manager.specs.steps.Presences.{with_failed, with_joined}
use Rattle.om_manager.specs.Sound.{IsManager, KeepsReleased}
use Rattle.om_manager.specs.State.{ManagerState, process_count}
use Rattle.om_manager.specs.declared.answers.Gathered.{Gathered}
use Rattle.om_manager.specs.declared.answers.FailError.{FailError}
use Rattle.om_manager.specs.declared.answers.FailError.TheVariants as failing
use Rattle.om_manager.specs.declared.answers.JoinError.{JoinError}
use Rattle.om_manager.specs.declared.answers.JoinError.TheVariants as joining
use Rattle.om_world.specs.declared.entry.Entry.{Entry}
use Rattle.om_world.specs.declared.failing.Failure.{Failure}
use Rattle.om_world.specs.declared.failing.Failure.TheVariants.{Known, Settled, New}
use Rattle.om_world.specs.declared.process_state.ProcessState.{ProcessState}
use Rattle.om_world.specs.Failures.{HasNews, IsDeclared, IsToDeclare, gathered, live_after}
use Rattle.om_world.specs.World.{WorldState, IsKnown}

-- the manager answered to a failure or a join; where the round is finished, what was received is cut
pub record HasGathered {E : Type 0} (old : ManagerState) (before : List Entry) (answer : Result Gathered E) (new : ManagerState)
    (after : List Entry) : Type 0 where
  pub sound : IsManager new
  pub size : process_count new ≡ process_count old
  pub released : KeepsReleased old new
  pub live : IfOk answer (λ gathered. after ≡ live_after gathered old before)
  pub refused : OnErr answer (after ≡ before)

-- ---- a failure
-- what a failure of the process comes to
abbrev pub IsFailure : WorldState → ℕ → Failure → Type 0
IsFailure w p Known = IsDeclared w p
IsFailure w p Settled = (slice_get w.places p ≡ Some ProcessState.In) × HasNews w p
IsFailure w p New = IsToDeclare w p

-- why a declaration is refused
abbrev pub IsWhyNot : FailError → ManagerState → ℕ → Type 0
IsWhyNot failing.Spent m p = IsSpent m
IsWhyNot failing.Memory m p = AreAllIn (process_count m) (with_failed m p)
IsWhyNot fault m p = ⊥

-- the failure of the process is declared
abbrev pub declared : WorldState → ℕ → WorldState
declared w p = record w { places = slice_set w.places p (ProcessState.Down true) }

-- the failure of a process that is down is declared, or refused
pub record HasDeclaredAt (old : WorldState) (p : ℕ) (answer : Result Gathered FailError) (new : WorldState) : Type 0 where
  pub size : process_count new.manager ≡ process_count old.manager
  pub released : KeepsReleased old.manager new.manager
  pub others : IfOk answer (λ told. new ≡ gathered (declared old p) told new.manager)
  pub manager : IsKnown old → IfOk answer (λ told. Gathers (with_failed old.manager p) old.manager told new.manager)
  pub refused : OnErr answer (new ≡ old)
  pub why : IsKnown old → (HasNews old p → ⊥) → IfErr answer (λ fault. IsWhyNot fault old.manager p)

-- ---- a join
-- the round and the interval of the core at a place
abbrev pub StandsIn : List (Option CoreState) → ℕ → ℕ × ℕ → Type 0
StandsIn cores p at = (c : CoreState) × (slice_get cores p ≡ Some (Some c)) × (at.0 ≡ c.round) × (at.1 ≡ c.now.interval)

-- the process is in
abbrev pub taken_in : WorldState → ℕ → WorldState
taken_in w p = record w { places = slice_set w.places p ProcessState.In }

-- a process that was up is in, or it was refused for want of memory
pub record HasEntered (old : WorldState) (p : ℕ) (answer : Result Gathered JoinError) (new : WorldState) : Type 0 where
  pub size : process_count new.manager ≡ process_count old.manager
  pub released : KeepsReleased old.manager new.manager
  pub core : CoreState
  pub there : slice_get old.cores p ≡ Some (Some core)
  pub others : IfOk answer (λ told. new ≡ gathered (taken_in old p) told new.manager)
  pub manager : IfOk answer (λ told. Gathers (with_joined old.manager p core.now.interval) old.manager told new.manager)
  pub refused : OnErr answer (new ≡ old)
  pub memory : IsKnown old → old.manager.gathering ≢ None → IfErr answer (λ fault. fault ≡ joining.Memory)
