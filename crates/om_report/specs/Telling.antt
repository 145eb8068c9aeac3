-- What is told of outputs as they are released.
use Rattle.std.specs.Prelude.{◌≡◌, ℕ, ◌≤◌, ◌==◌, List, Some, slice_get, slice_index}
use Rattle.std.specs.List.{filter}
use Rattle.om_manager.specs.declared.output_log.Output.{Output}
use Rattle.om_process.specs.Process.{Program}
use Rattle.om_board.specs.Made.{IsMade}

-- an output of a process, with its number
pub record Told : Type 0 where
  pub process : ℕ
  pub number : ℕ
  pub bytes : List ℕ

-- what is told of an output
abbrev pub told_of : ℕ → Output → Told
told_of p output = record { process = p; number = output.seq; bytes = output.bytes }

-- what was told of one process, in order
abbrev pub of_process : ℕ → List Told → List Told
of_process p told = filter (λ t. t.process == p) told

-- by process, what was told are outputs that are numbered from 0 without a gap
abbrev pub AreInOrder : List Told → Type 0
AreInOrder told = (p i : ℕ) (t : Told) → slice_get (of_process p told) i ≡ Some t → t.number ≡ i

-- what was told of a process is the output of its number that its program makes, in an interval within the limit
abbrev pub IsMadeWithin : List Program → ℕ → ℕ → ℕ → Told → Type 0
IsMadeWithin programs n p limit t = (x : ℕ) × (x ≤ limit) × IsMade programs n p t.number (record { interval = x; bytes = t.bytes })

-- by process: each of what was told is the output of its number that its program makes, in some interval
abbrev pub AreToldMade : List Program → ℕ → List Told → Type 0
AreToldMade programs n told = (p i : ℕ) (t : Told) → slice_get (of_process p told) i ≡ Some t
    → (x : ℕ) × IsMade programs n p t.number (record { interval = x; bytes = t.bytes })

-- by process: each of what was told is the output of its number that its program makes, within the process's place of the vector
abbrev pub AreToldWithin : List Program → ℕ → List ℕ → List Told → Type 0
AreToldWithin programs n vec told = (p i : ℕ) (t : Told) → slice_get (of_process p told) i ≡ Some t → IsMadeWithin programs n p (slice_index vec p) t
