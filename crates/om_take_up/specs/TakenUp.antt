-- What a manager is told of what the store of a process held.
use Rattle.std.specs.Prelude.{ℕ, ◌+◌, ◌≤◌, List, [], ◌∷◌, Result, Ok, Err}
use Rattle.om_manager.specs.State.{ManagerState}
use Rattle.om_member.specs.Handed.{AreHanded, AreHandedUpTo}
use Rattle.om_member.specs.Told.{AreTold, IsToldUpTo}
use Rattle.om_process.specs.declared.queues.Made.{Made}
use Rattle.om_process.specs.declared.row.PendingRow.{PendingRow}
use Rattle.om_take_up.specs.declared.taking.TakeUpFault.{TakeUpFault}
use Rattle.om_take_up.specs.declared.taking.TakeUpFault.TheVariants.{Output, Row}

-- the manager took the rows, in order, and then the outputs, in order
abbrev pub HasTakenUp : ManagerState → ℕ → ℕ → List PendingRow → List Made → ManagerState → Type 0
HasTakenUp old round p rows outputs new =
    (told : ManagerState) × AreTold old round p rows told × AreHanded told round p outputs new

-- the manager took the rows, in order, and then the outputs, in order, up to the first row or output that it refused
abbrev pub IsTakenUp : ManagerState → ℕ → ℕ → List PendingRow → List Made → Result (Unit {0}) TakeUpFault → ManagerState → Type 0
IsTakenUp old round p rows outputs (Ok done) new = HasTakenUp old round p rows outputs new
IsTakenUp old round p rows outputs (Err (Row fault)) new = (count : ℕ) × IsToldUpTo old round p rows count (Err fault) new
IsTakenUp old round p rows outputs (Err (Output fault)) new =
    (told : ManagerState) × AreTold old round p rows told × AreHandedUpTo told round p outputs (Err fault) new

-- the numbers of outputs rise, and none is below this one
abbrev pub RiseFrom : ℕ → List Made → Type 0
RiseFrom seq [] = Unit {0}
RiseFrom seq (output ∷ outputs) = (seq ≤ output.seq) × RiseFrom (output.seq + 1) outputs
