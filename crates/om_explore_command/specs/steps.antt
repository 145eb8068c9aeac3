-- What only the crate's own parts rest on: no public clause cites these.
use Rattle.std.specs.Prelude.{◌≡◌, ◌≢◌, ℕ, ◌+◌, ◌<◌, List, [], ◌∷◌, ◌++◌, Some, Vec, length, map, slice_get, slice_index_or}
use Rattle.std.specs.Prelude.{slice_set}
use Rattle.std.specs.declared.alloc.Global.{Global}
use Rattle.om_manager.specs.Outputs.{HeldOutput, held_of}
use Rattle.om_manager.specs.declared.output_log.Output.{Output}
use Rattle.om_process.specs.Core.{CoreState}
use Rattle.om_process.specs.declared.status.Status.{Status}
use Rattle.om_report.specs.declared.report.Report.{Report}
use Rattle.om_scripts.specs.Programs.{Cluster}
use Rattle.om_world.specs.World.{WorldState}
use Rattle.om_world.specs.declared.entry.Entry.{Entry}
use Rattle.om_check.specs.declared.fault.PlayFault.{PlayFault}
use Rattle.om_check.specs.declared.fault.PlayFault.TheVariants as playing
use Rattle.om_commands.specs.declared.error.CommandError.{CommandError}
use Rattle.om_commands.specs.declared.error.CommandError.TheVariants.{NoMemory, OutOfTurns}
use Rattle.om_explore_command.specs.Differences.{DifferIn, PutOutSameUpTo}
use Rattle.om_explore_command.specs.Outcomes.{IsOutcome}
use Rattle.om_explore_command.specs.Tallies.{IsTally}
use Rattle.om_explore_command.specs.declared.difference.TextPosition.{TextPosition}
use Rattle.om_explore_command.specs.declared.difference.TextPosition.TheVariants as places
use Rattle.om_explore_command.specs.declared.outcome.Outcome.{Outcome}
use Rattle.om_explore_command.specs.declared.tally.Found.{Found}

-- the process is up or in
abbrev pub HasCore : WorldState → ℕ → Type 0
HasCore w p = (c : CoreState) × (slice_get w.cores p ≡ Some (Some c))

-- what was found at the place came once more
abbrev pub IsCountedAgain : List Found → ℕ → List Found → Type 0
IsCountedAgain old place new = (f : Found) × (slice_get old place ≡ Some f) × (new ≡ slice_set old place (record f { runs = f.runs + 1 }))

-- what one more run came to was taken in
abbrev pub TakesIn : List Found → Outcome → List Found → Type 0
TakesIn old outcome new = (cluster : Cluster) (runs : List (List Entry)) (live : List Entry) → IsOutcome cluster live outcome
    → IsTally cluster old runs → IsTally cluster new (runs ++ live ∷ [])

-- the run was not played: a process came to its limit, or memory ran out
abbrev pub error_of : PlayFault → CommandError
error_of (playing.NotSent pid) = OutOfTurns
error_of (playing.NotWaiting pid) = OutOfTurns
error_of (playing.Spent pid) = OutOfTurns
error_of (playing.NotEnded pid) = OutOfTurns
error_of playing.Memory = NoMemory

-- ---- differences
-- the outputs of each process, each at the place that is its number
abbrev pub held : List (Vec Output Global) → List (List HeldOutput)
held released = map (λ outputs. map held_of outputs.items) released

-- the report is of n processes
pub record AreOf (n : ℕ) (report : Report) : Type 0 where
  pub released : length report.released.items ≡ n
  pub statuses : length report.statuses.items ≡ n

-- the first difference in what n processes put out is at this place
abbrev pub IsOutputPlace : ℕ → List (List HeldOutput) → List (List HeldOutput) → TextPosition → Type 0
IsOutputPlace n one other (places.Output process number) = (process < n) × PutOutSameUpTo one other process
    × DifferIn (slice_index_or one process []) (slice_index_or other process []) number
IsOutputPlace n one other (places.End process) = ⊥

-- that in how they ended
abbrev pub IsEndPlace : ℕ → List Status → List Status → TextPosition → Type 0
IsEndPlace n one other (places.Output process number) = ⊥
IsEndPlace n one other (places.End process) = (process < n) × ((p : ℕ) → p < process → slice_get one p ≡ slice_get other p)
    × (slice_get one process ≢ slice_get other process)

-- its report is of n processes
abbrev pub OfCluster : ℕ → Found → Type 0
OfCluster n found = AreOf n found.outcome.report
