-- What is shown of a process of a record at a position.
use Rattle.std.specs.Prelude.{◌≡◌, ℕ, ◌≤◌, List, [], ◌∷◌, take, slice_get, Option, Some}
use Rattle.om_machine.specs.State.{State}
use Rattle.om_process.specs.Core.{CoreState, CoreTurns}
use Rattle.om_world.specs.declared.event.Answer.{Answer}
use Rattle.om_world.specs.declared.event.Event.{Event}
use Rattle.om_world.specs.Played.{Step}
use Rattle.om_world.specs.World.{WorldState}

-- the machine of a process: of one that is down, the one that it had
abbrev pub machine_in : State → Option (Option CoreState) → State
machine_in had (Some (Some core)) = core.now.machine
machine_in had _ = had

abbrev pub machine_of : ℕ → State → WorldState → State
machine_of p had w = machine_in had (slice_get w.cores p)

-- the events, each with its answer, and the machine of process p behind them, which had this one before
abbrev pub Shows : ℕ → State → WorldState → List Event → List Answer → State → WorldState → Type 0
Shows p had old [] [] m new = (m ≡ had) × (new ≡ old)
Shows p had old (e ∷ events) (a ∷ answers) m new =
    (mid : WorldState) × Step old e a mid × Shows p (machine_of p had mid) mid events answers m new
Shows p had old events answers m new = ⊥

-- the machine in the run of process p that comes next, so many turns on
pub record InRun (p : ℕ) (w : WorldState) (event : Option Event) (turns : ℕ) (before after : State) : Type 0 where
  pub fuel : ℕ
  pub is_run : event ≡ Some (Event.Run p fuel)
  pub within : turns ≤ fuel
  pub core : CoreState
  pub is_core : slice_get w.cores p ≡ Some (Some core)
  pub machine : core.now.machine ≡ before
  pub next : CoreState
  pub leads : CoreTurns turns core next
  pub is_after : next.now.machine ≡ after

-- the world before the event, or so many turns on in it
pub data IsTurned (p : ℕ) (w : WorldState) (event : Option Event) (before : State) (turns : ℕ) (m : State) : Type 0 where
  still : turns ≡ 0 → m ≡ before → IsTurned p w event before turns m
  runs : InRun p w event turns before m → IsTurned p w event before turns m

-- at a position of a record that began with this world the machine of process p is this: so many events were played, and then so many
-- turns of the next one, where that is a run of the process
pub record ShownAt (p : ℕ) (first : State) (begun : WorldState) (events : List Event) (event turns : ℕ) (m : State) : Type 0 where
  pub answers : List Answer
  pub world : WorldState
  pub before : State
  pub shows : Shows p first begun (take event events) answers before world
  pub turned : IsTurned p world (slice_get events event) before turns m
