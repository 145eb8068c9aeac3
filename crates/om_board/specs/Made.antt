-- What the outputs of a cluster are to the programs of its processes.
use Rattle.std.specs.Prelude.{◌≡◌, ℕ, List, Some, slice_get}
use Rattle.om_process.specs.Claims.{Makes}
use Rattle.om_process.specs.Process.{Program, Received}
use Rattle.om_manager.specs.Outputs.{HeldOutput}
use Rattle.om_manager.specs.State.{ManagerState, held_by}

-- there are receipts along which process `own` of n, which runs the program, makes this output, the one of this number
abbrev pub IsOutputOf : Program → ℕ → ℕ → ℕ → HeldOutput → Type 0
IsOutputOf program own n seq output =
    ∥ ((h : List Received) × Makes program own n n seq (record { interval = output.interval; body = output.bytes }) h) ∥₁

-- by process: this is the output of this number that its program makes
abbrev pub IsMade : List Program → ℕ → ℕ → ℕ → HeldOutput → Type 0
IsMade programs n p seq output = (program : Program) → slice_get programs p ≡ Some program → IsOutputOf program p n seq output

-- each output that a manager holds is one that its process's program makes, with its place as its number
abbrev pub HoldsMade : List Program → ℕ → ManagerState → Type 0
HoldsMade programs n m = (p i : ℕ) (output : HeldOutput) → slice_get (held_by m p) i ≡ Some output → IsMade programs n p i output
