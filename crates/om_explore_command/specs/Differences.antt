-- Where two runs differ first, as their texts are written: the outputs of each process come first, in the order of the processes, and
-- then how each ended.
use Rattle.std.specs.Prelude.{◌≡◌, ◌≢◌, ℕ, ◌<◌, List, [], Option, None, Some, slice_get, slice_index_or}
use Rattle.std.specs.Option.{option_map}
use Rattle.om_manager.specs.Outputs.{HeldOutput}
use Rattle.om_report.specs.declared.report.Report.{Report}
use Rattle.om_run_commands.specs.Run.{outputs_of}
use Rattle.om_explore_command.specs.declared.difference.TextPosition.{TextPosition}
use Rattle.om_explore_command.specs.declared.difference.TextPosition.TheVariants.{Output, End}

-- the bytes of the output of a number, if there is one
abbrev pub bytes_in : List HeldOutput → ℕ → Option (List ℕ)
bytes_in outputs number = option_map (λ output. output.bytes) (slice_get outputs number)

-- two processes put out the same bytes
abbrev pub PutOutSame : List HeldOutput → List HeldOutput → Type 0
PutOutSame one other = (number : ℕ) → bytes_in one number ≡ bytes_in other number

-- the first output in which two lists of outputs differ has this number
pub record DifferIn (one other : List HeldOutput) (number : ℕ) : Type 0 where
  pub before : (earlier : ℕ) → earlier < number → bytes_in one earlier ≡ bytes_in other earlier
  pub differs : bytes_in one number ≢ bytes_in other number

-- so many processes put out the same in two runs
abbrev pub PutOutSameUpTo : List (List HeldOutput) → List (List HeldOutput) → ℕ → Type 0
PutOutSameUpTo one other n = (p : ℕ) → p < n → PutOutSame (slice_index_or one p []) (slice_index_or other p [])

-- the first difference of two runs of n processes is at this place, or there is none
abbrev pub DifferFirst : ℕ → Report → Report → Option TextPosition → Type 0
DifferFirst n one other (Some (Output process number)) = (process < n) × PutOutSameUpTo (outputs_of one) (outputs_of other) process
    × DifferIn (slice_index_or (outputs_of one) process []) (slice_index_or (outputs_of other) process []) number
DifferFirst n one other (Some (End process)) = (process < n) × PutOutSameUpTo (outputs_of one) (outputs_of other) n
    × ((p : ℕ) → p < process → slice_get one.statuses.items p ≡ slice_get other.statuses.items p)
    × (slice_get one.statuses.items process ≢ slice_get other.statuses.items process)
DifferFirst n one other None = PutOutSameUpTo (outputs_of one) (outputs_of other) n
    × ((p : ℕ) → p < n → slice_get one.statuses.items p ≡ slice_get other.statuses.items p)
