-- What all workers bring back.
use Rattle.std.specs.Prelude.{◌≡◌, ℕ, ◌<◌, ◌≤◌, ◌+◌, All, List, Bool, IfOk, Option, None, Some, Result, Ok, Err, length, slice_get, slice_index_or, vec_capacity, vec_len}
use Rattle.om_process.specs.Images.{program_of}
use Rattle.om_process.specs.declared.image.Image.{Image}
use Rattle.om_process.specs.Core.{IsEnd}
use Rattle.om_cluster.specs.declared.config.Config.{Config}
use Rattle.om_report.specs.declared.fault.RunFault.{RunFault}
use Rattle.om_report.specs.declared.fault.RunFault.TheVariants.{Turns, GateShut, Memory, Fault, Load, StoreInUse, AnotherCluster, StoreMissing, NoThread}
use Rattle.om_report.specs.Harvests.{AreOwn, harvested}
use Rattle.om_threads.specs.Reports.{AreWholeOver}
use Rattle.om_threads.specs.declared.results.Parts.{Parts}
use Rattle.om_threads.specs.declared.starting.EndOf.{EndOf}
use Rattle.om_threads.specs.steps.Settling.{ArePasses}
use Rattle.om_cluster.specs.declared.finished.Finished.{Finished}
use Rattle.om_links.specs.Network.{Lines}
use Rattle.om_cluster.specs.Ends.{IsEndOf, IsOwnEnd}

-- what the workers of a cluster of these images brought back, when each had ended well
pub record AreParts {K S : Type 0} (is_clean : S → Bool) (images : List Image) (lines : Lines) (parts : Parts K S) : Type 0 where
  pub passes : ArePasses (length lines) lines parts.puts.items parts.takes.items
  pub statuses : length parts.statuses.items ≡ length images
  pub stores : length parts.stores.items ≡ length images
  pub harvests : length parts.harvests.items ≡ length images
  pub ended : All IsEnd parts.statuses.items
  pub of_each : AreOwn parts.harvests.items
  pub whole : AreWholeOver is_clean images parts.statuses.items (harvested parts.harvests.items) parts.stores.items

-- these parts have room for what n more workers bring back
pub record HasRoom {K S : Type 0} (n : ℕ) (parts : Parts K S) : Type 0 where
  pub statuses : vec_len parts.statuses + n ≤ vec_capacity parts.statuses
  pub harvests : vec_len parts.harvests + n ≤ vec_capacity parts.harvests
  pub stores : vec_len parts.stores + n ≤ vec_capacity parts.stores
  pub puts : vec_len parts.puts + n ≤ vec_capacity parts.puts
  pub takes : vec_len parts.takes + n ≤ vec_capacity parts.takes
  pub witnesses : vec_len parts.witnesses + n ≤ vec_capacity parts.witnesses

-- each of n workers that ended well ended so
abbrev pub AreEndsOf : {K S E : Type 0} → (S → Bool) → List Image → Lines → ℕ → List (Result (Finished K S) E) → Type 0
AreEndsOf is_clean images lines n results = (i : ℕ) (image : Image) (result : Result (Finished _ _) _) → i < n
    → IfOk (slice_index_or results i result) (λ f. IsEndOf is_clean (program_of (slice_index_or images i image)) lines i n f)

-- what is promised is for this run, this image, these inboxes, this process, and so many
pub record IsPromised {S : Type 0} (config : Config) (image : Image) (lines : Lines) (own n : ℕ) (promise : EndOf S) : Type 0 where
  pub plan_is : promise.config.now ≡ config
  pub image_is : promise.image.now ≡ image
  pub lines_are : promise.inboxes.now ≡ lines
  pub own_is : promise.own ≡ own
  pub n_is : promise.n ≡ n

-- so did each of n workers
abbrev pub AreOwnEnds : {F : Type 0} → Config → ℕ → List (Result F RunFault) → Type 0
AreOwnEnds config n results = (i : ℕ) (result : Result _ RunFault) → i < n → IsOwnEnd config i (slice_index_or results i result)

-- a worker ended well
abbrev pub IsWell : {F : Type 0} → Result F RunFault → Type 0
IsWell (Ok f) = Unit {0}
IsWell (Err fault) = ⊥

-- the worker's turns were out
abbrev pub IsOut : RunFault → Type 0
IsOut (Turns pid) = Unit {0}
IsOut (GateShut pid) = ⊥
IsOut (Fault pid) = ⊥
IsOut (Load pid) = ⊥
IsOut (StoreInUse pid) = ⊥
IsOut (AnotherCluster pid) = ⊥
IsOut (StoreMissing pid) = ⊥
IsOut Memory = ⊥
IsOut NoThread = ⊥

-- a worker ended well, or its turns were out
abbrev pub IsWellOrOut : {F : Type 0} → Result F RunFault → Type 0
IsWellOrOut (Ok f) = Unit {0}
IsWellOrOut (Err fault) = IsOut fault

-- so did each of the first k workers
abbrev pub AreBelow : {F : Type 0} → (Result F RunFault → Type 0) → ℕ → List (Result F RunFault) → Type 0
AreBelow Is k results = (j : ℕ) (result : Result _ RunFault) → j < k → slice_get results j ≡ Some result → Is result

-- the fault that is told of all: of the first worker that has another than Turns; else of the first that has one
pub data IsLeastFault {F : Type 0} (results : List (Result F RunFault)) (fault : RunFault) : Type 0 where
  other : (place : ℕ) → slice_get results place ≡ Some (Err fault) → AreBelow IsWellOrOut place results
      → (IsOut fault → ⊥) → IsLeastFault results fault
  out : (place : ℕ) → slice_get results place ≡ Some (Err fault) → AreBelow IsWell place results
      → AreBelow IsWellOrOut (length results) results → IsLeastFault results fault

-- of the first k workers, the first whose turns were out
abbrev pub IsFirstOut : {F : Type 0} → List (Result F RunFault) → ℕ → Option RunFault → Type 0
IsFirstOut results k None = AreBelow IsWell k results
IsFirstOut results k (Some fault) = (place : ℕ) × (slice_get results place ≡ Some (Err fault)) × AreBelow IsWell place results
