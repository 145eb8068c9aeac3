-- What is released of the outputs of a cluster, and what it is to the programs of its processes.
use Rattle.std.specs.Prelude.{◌≡◌, ℕ, ◌≤◌, List, Some, Vec, map, slice_get, slice_index}
use Rattle.std.specs.declared.alloc.Global.{Global}
use Rattle.om_process.specs.Process.{Program}
use Rattle.om_manager.specs.Outputs.{AreNumbered, held_of}
use Rattle.om_manager.specs.State.{ManagerState, released_by}
use Rattle.om_manager.specs.declared.output_log.Output.{Output}
use Rattle.om_board.specs.Made.{IsMade}

-- the outputs of each process are those that the manager released, each with its place as its number
abbrev pub AreReleasedBy : ManagerState → List (Vec Output Global) → Type 0
AreReleasedBy m released = (p : ℕ) (outputs : Vec Output Global) → slice_get released p ≡ Some outputs
    → (map held_of outputs.items ≡ released_by m p) × AreNumbered outputs.items

-- the outputs are numbered from 0 without a gap, and each was made within the limit
abbrev pub AreReleased : ℕ → List Output → Type 0
AreReleased limit outputs = (i : ℕ) (o : Output) → slice_get outputs i ≡ Some o → (o.seq ≡ i) × (o.interval ≤ limit)

-- the outputs of each process are numbered from 0 without a gap, and each was made within the process's place of the vector
abbrev pub AreAllReleased : List ℕ → List (Vec Output Global) → Type 0
AreAllReleased vec released = (p : ℕ) (outputs : Vec Output Global) → slice_get released p ≡ Some outputs
    → AreReleased (slice_index vec p) outputs.items

-- each of some outputs of a process is the one of its number that its program makes
abbrev pub AreMade : List Program → ℕ → ℕ → List Output → Type 0
AreMade programs n p outputs = (i : ℕ) (o : Output) → slice_get outputs i ≡ Some o → IsMade programs n p o.seq (held_of o)

-- of each process each of some outputs is the one of its number that its program makes
abbrev pub AreAllMade : List Program → ℕ → List (Vec Output Global) → Type 0
AreAllMade programs n released = (p : ℕ) (outputs : Vec Output Global) → slice_get released p ≡ Some outputs
    → AreMade programs n p outputs.items
