-- The machine of one process, run again without the process around it.
use Rattle.std.specs.Prelude.{◌≡◌, ℕ, zero, suc, [], Option, Some, None, List}
use Rattle.om_machine.specs.State.{State}
use Rattle.om_machine.specs.Finishing.{finished_receive}
use Rattle.om_process.specs.Process.{Move, Waits, Goes, Emits}
use Rattle.om_process.specs.Turns.{next_move}

-- the machine after a move, where there is one
abbrev pub machine_moved : Move → Option State
machine_moved (Goes next) = Some next
machine_moved (Emits place body next) = Some next
machine_moved _ = None

-- what comes next at the machine of process own of n, no message of which has the last number
abbrev pub move_alone : ℕ → ℕ → State → Move
move_alone own n m = next_move own n m []

-- the machine after one turn of its process, where there is one
abbrev pub turn_alone : ℕ → ℕ → State → Option State
turn_alone own n m = machine_moved (move_alone own n m)

-- the machine behind a turn, or as it is where there is none
abbrev pub or_stands : State → Option State → State
or_stands m None = m
or_stands m (Some next) = next

-- the machine after so many turns
abbrev pub turns_alone : ℕ → ℕ → ℕ → State → State
turns_alone own n zero m = m
turns_alone own n (suc k) m = turns_alone own n k (or_stands m (turn_alone own n m))

-- so many turns are there
abbrev pub TakesAlone : ℕ → ℕ → ℕ → State → Type 0
TakesAlone own n zero m = Unit {0}
TakesAlone own n (suc k) m = (next : State) × (turn_alone own n m ≡ Some next) × TakesAlone own n k next

pub record HasTurns (own n turns : ℕ) (m : State) : Type 0 where
  pub takes : TakesAlone own n turns m

-- the machine after a message of these bytes, where the process waits for one
abbrev pub received_at : Move → ℕ → List ℕ → State → State
received_at Waits from body m = finished_receive from body m
received_at _ from body m = m

abbrev pub received_alone : ℕ → ℕ → ℕ → List ℕ → State → State
received_alone own n from body m = received_at (move_alone own n m) from body m
