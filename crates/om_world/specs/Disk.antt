-- What stores hold of a run, in words of stores and of runs without failures; and what a world leaves on its disk.
use Rattle.std.specs.Prelude.{◌≡◌, ◌⊎◌, ℕ, ◌<◌, ◌≤◌, ◌≢◌, List, length, slice_get, slice_index_or, take, Some, IsSome}
use Rattle.std.specs.FinMap.{get}
use Rattle.om_format.specs.Checkpoints.{CheckpointRecord}
use Rattle.om_format.specs.Receipts.{ReceiptRecord}
use Rattle.om_manager.specs.Outputs.{HeldOutput}
use Rattle.om_manager.specs.State.{released_by}
use Rattle.om_process.specs.Claims.{AtInterval, CheckpointOf, Makes, RecordOf}
use Rattle.om_process.specs.Dependencies.{greatest_from}
use Rattle.om_process.specs.Process.{Program}
use Rattle.om_process.specs.Replays.{process_of_checkpoint}
use Rattle.om_process.specs.Stored.{IsCheckpointAt, IsReceiptAt}
use Rattle.om_process.specs.declared.limits.TheConstants.{LAST_INTERVAL}
use Rattle.om_stable.specs.Content.{Content, nothing}
use Rattle.om_world.specs.Changes.{IsUp}
use Rattle.om_world.specs.Failures.{HasNews}
use Rattle.om_world.specs.Live.{Legal, program_at, received}
use Rattle.om_world.specs.World.{WorldState, output_entry, recovered}
use Rattle.om_world.specs.declared.entry.Entry.{Entry}

-- by process what its store holds: each record that can be read is that of its process in its interval along a run
pub record AreTrue (programs : List Program) (live : List Entry) (held : ℕ → Content) : Type 0 where
  pub checkpoints : (p x : ℕ) (c : CheckpointRecord) → p < length programs → IsCheckpointAt (held p).checkpoints x c
      → AtInterval (received p live) x (CheckpointOf (program_at programs p) p (length programs) (process_of_checkpoint c))
  pub receipts : (p x : ℕ) (r : ReceiptRecord) → p < length programs → 1 ≤ x → IsReceiptAt (held p).receipts x r
      → AtInterval (received p live) x (RecordOf (program_at programs p) p (length programs) r)

-- a store serves a replay to an interval: a checkpoint stands at or below it, and each receipt between
pub record CanServe (held : Content) (x : ℕ) : Type 0 where
  pub from : ℕ
  pub below : from ≤ x
  pub checkpoint : IsSome (get held.checkpoints from)
  pub receipts : (y : ℕ) → from < y → y ≤ x → IsSome (get held.receipts y)

-- no receipt within the state depends on an interval of another process outside it
abbrev pub DependsWithin : List Entry → (ℕ → ℕ) → Type 0
DependsWithin live state = (p q : ℕ) → q ≢ p → greatest_from q (take (state p) (received p live)) ≤ state q

-- by process what its store holds, and nothing where there is no process
abbrev pub held_in : WorldState → ℕ → Content
held_in w p = slice_index_or w.contents p nothing

-- each process is up, or knows the last finished round
abbrev pub IsSettled : WorldState → Type 0
IsSettled w = (p : ℕ) → p < length w.programs → IsUp w p ⊎ (HasNews w p → ⊥)

-- what a world leaves: its run is one without failures, of which the records of its stores are true; they can serve what was recovered,
-- which depends on nothing outside it; and each output that was released was made within it
pub record IsOnDisk (w : WorldState) : Type 0 where
  pub legal : Legal w.programs w.live
  pub held : AreTrue w.programs w.live (held_in w)
  pub places : length w.manager.recovery ≡ length w.programs
  pub last : (p : ℕ) → p < length w.programs → recovered w.manager p ≤ LAST_INTERVAL
  pub served : (p : ℕ) → p < length w.programs → CanServe (held_in w p) (recovered w.manager p)
  pub within : DependsWithin w.live (recovered w.manager)
  pub released : (p i : ℕ) (o : HeldOutput) → p < length w.programs → slice_get (released_by w.manager p) i ≡ Some o
      → (o.interval ≤ recovered w.manager p) × AtInterval (received p w.live) o.interval
      (Makes (program_at w.programs p) p (length w.programs) (length w.programs) i (output_entry o))
