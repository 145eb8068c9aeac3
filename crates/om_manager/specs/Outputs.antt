use Rattle.std.specs.Prelude.{◌≡◌, ℕ, ◌<◌, ◌≤◌, List, length, nat_le, slice_index_or, AllPairs}
use Rattle.std.specs.List.{filter}
use Rattle.om_manager.specs.declared.output_log.Output.{Output}

-- an output that was handed in: the interval in which it was made, and its bytes; its number is its place in the list
pub record HeldOutput : Type 0 where
  pub interval : ℕ
  pub bytes : List ℕ

-- an output without its number
abbrev pub held_of : Output → HeldOutput
held_of output = record { interval = output.interval; bytes = output.bytes }

-- the outputs that were made no later than an interval, in order
abbrev pub within : List HeldOutput → ℕ → List HeldOutput
within outputs limit = filter (λ output. nat_le output.interval limit) outputs

-- no output was made earlier than one before it
abbrev pub AreRising : List HeldOutput → Type 0
AreRising outputs = AllPairs (λ early late. early.interval ≤ late.interval) outputs

-- each output has its place as its number
abbrev pub AreNumbered : List Output → Type 0
AreNumbered outputs = (place : ℕ) (d : Output) → place < length outputs → (slice_index_or outputs place d).seq ≡ place
