-- A run that is played in parts.
use Rattle.std.specs.Prelude.{◌≡◌, ℕ, zero, suc, ◌≤◌, List, Option, None, Some, slice_get}
use Rattle.om_machine.specs.State.{State}
use Rattle.om_manager.specs.Sound.{KeepsReleased}
use Rattle.om_process.specs.Core.{CoreState, CoreTurns, cluster_size, with_now}
use Rattle.om_process.specs.Process.{Goes}
use Rattle.om_process.specs.Turns.{next_move}
use Rattle.om_world.specs.declared.event.Answer.{Answer}
use Rattle.om_world.specs.declared.event.Answer.TheVariants as answers
use Rattle.om_world.specs.declared.event.Event.{Event}
use Rattle.om_world.specs.Played.{Step}
use Rattle.om_world.specs.Changes.{Changes, HoldsMore}
use Rattle.om_world.specs.World.{IsKnown, WorldState}
use Rattle.om_timeline.specs.declared.alone.Alone.{Alone}
use Rattle.om_timeline.specs.declared.player.Part.{Part}

-- a core with another machine
abbrev pub at_machine : CoreState → State → CoreState
at_machine c m = with_now c (record c.now { machine = m })

-- whatever it made before, process own of n comes from the one machine to the other by one turn that makes nothing
abbrev pub GoesAlone : ℕ → ℕ → State → State → Type 0
GoesAlone own n m next = (counts : List ℕ) → next_move own n m counts ≡ Goes next

-- the process comes from the one machine to the other by so many such turns
abbrev pub GoesOn : ℕ → ℕ → ℕ → State → State → Type 0
GoesOn own n zero m next = next ≡ m
GoesOn own n (suc k) m next = (mid : State) × GoesAlone own n m mid × GoesOn own n k mid next

pub record IsGoing (own n turns : ℕ) (m next : State) : Type 0 where
  pub goes : GoesOn own n turns m next

-- process own of n took so many turns of a run, made nothing on the way, and its machine is this
pub record IsSilent (old : WorldState) (p done own n : ℕ) (m : State) (new : WorldState) : Type 0 where
  pub before : CoreState
  pub is_own : own ≡ before.own
  pub is_n : n ≡ cluster_size before.now
  pub changes : Changes old p before (at_machine before m) new
  pub turns : CoreTurns done before (at_machine before m)
  pub frames : new.frames ≡ old.frames
  pub manager : HoldsMore old.manager p new.manager
  pub released : KeepsReleased old.manager new.manager
  pub contents : new.contents ≡ old.contents
  pub since : new.since ≡ old.since

-- with some machine
abbrev pub HasSilent : WorldState → ℕ → ℕ → WorldState → Type 0
HasSilent old p done new = (own : ℕ) × (n : ℕ) × (m : State) × IsSilent old p done own n m new

-- a world between events, or as it was before a run of which a part was played
pub record PlayerState : Type 0 where
  pub before : WorldState
  pub begun : Option Event

abbrev pub player_of : Option Part → WorldState → PlayerState
player_of None w = record { before = w; begun = None }
player_of (Some part) w = record { before = part.before.value; begun = Some (Event.Run part.process part.fuel) }

-- the world is known, and where a run has begun it is silent so far
abbrev pub IsPlayer : Option Part → WorldState → Type 0
IsPlayer None w = IsKnown w
IsPlayer (Some part) w = IsKnown w × (part.done ≤ part.fuel) × IsSilent part.before.value part.process part.done part.ahead.own part.ahead.n part.ahead.machine w

-- the event was played whole
pub record IsPlayed (before : WorldState) (event : Event) (answer : Answer) (new : PlayerState) : Type 0 where
  pub over : new.begun ≡ None
  pub step : Step before event answer new.before
  pub known : IsKnown new.before

-- the machine of process own of n so many such turns on
pub record IsAhead (w : WorldState) (p turns : ℕ) (ahead : Alone) : Type 0 where
  pub core : CoreState
  pub is_core : slice_get w.cores p ≡ Some (Some core)
  pub is_own : ahead.own ≡ core.own
  pub is_n : ahead.n ≡ cluster_size core.now
  pub going : IsGoing ahead.own ahead.n turns core.now.machine ahead.machine

-- the answer tells of so many turns
abbrev pub UsesUp : ℕ → Answer → Type 0
UsesUp turns (answers.Ran steps status sent made) = turns ≤ steps
UsesUp turns _ = ⊥
