-- A process of a record at a position.
use Rattle.std.specs.Prelude.{◌≡◌, ◌⊎◌, ℕ, ◌<◌, ◌≤◌, List, [], slice_get, Option, None, Some}
use Rattle.om_machine.specs.State.{State}
use Rattle.om_process.specs.Core.{CoreState}
use Rattle.om_process.specs.declared.limits.TheConstants.{LAST_NUMBER}
use Rattle.om_world.specs.declared.event.Event.{Event}
use Rattle.om_world.specs.World.{WorldState}
use Rattle.om_timeline.specs.declared.deed.Deed.{Deed}
use Rattle.om_timeline.specs.Deeds.{at_position}
use Rattle.om_timeline.specs.declared.tape.Peek.{Peek}
use Rattle.om_timeline.specs.declared.tape.Peek.TheVariants.{NotYet}

pub record TimelineState : Type 0 where
  pub process : ℕ
  pub n : ℕ  -- how many processes there are
  pub first : State  -- the machine at the start
  pub begun : Option WorldState  -- the world at the start, of a record that is played
  pub events : List Event
  pub deeds : List Deed  -- what the events that were played did to the process
  pub event : ℕ  -- how many events have happened
  pub turns : ℕ  -- how many instructions of the next

-- the machine at the position
abbrev pub machine_here : TimelineState → State
machine_here t = at_position t.process t.n t.first t.deeds t.event t.turns

-- a timeline at another position
abbrev pub at : TimelineState → ℕ → ℕ → TimelineState
at t event turns = record t { event = event; turns = turns }

-- the one position is the other, or before it
abbrev pub IsUpTo : ℕ → ℕ → ℕ → ℕ → Type 0
IsUpTo event turns other done = (event < other) ⊎ ((event ≡ other) × (turns ≤ done))

-- a timeline with more events played
abbrev pub with_deeds : TimelineState → List Deed → TimelineState
with_deeds t deeds = record t { deeds = deeds }

-- the process is up or in, and has finished no more instructions than are played
pub record CanBegin (w : WorldState) (p : ℕ) : Type 0 where
  pub core : CoreState
  pub is_core : slice_get w.cores p ≡ Some (Some core)
  pub few : core.now.machine.count ≤ LAST_NUMBER

-- a timeline before the first event of a record, with the machine that the process has there
pub record IsBegin (t : TimelineState) (p : ℕ) (world : WorldState) (events : List Event) : Type 0 where
  pub is_process : t.process ≡ p
  pub is_begun : t.begun ≡ Some world
  pub is_events : t.events ≡ events
  pub none : t.deeds ≡ []
  pub at_event : t.event ≡ 0
  pub no_turns : t.turns ≡ 0
  pub core : CoreState
  pub is_core : slice_get world.cores p ≡ Some (Some core)
  pub is_first : t.first ≡ core.now.machine

-- a timeline before the first event of a record of which all is told: each event did this to process p of n, whose machine was this
abbrev pub told_timeline : ℕ → ℕ → State → List Event → List Deed → TimelineState
told_timeline p n first events deeds =
    record { process = p; n = n; first = first; begun = None; events = events; deeds = deeds; event = 0; turns = 0 }

-- where nothing is known yet of what comes, nothing changed
abbrev pub StaysUnknown : {T : Type 0} → T → Peek → T → Type 0
StaysUnknown old look new = look ≡ NotYet → new ≡ old
