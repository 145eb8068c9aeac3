-- What holds of a world at each point, whatever was refused or lost: it is a point of a run without failures.
use Rattle.std.specs.Prelude.{◌≡◌, ℕ, ◌<◌, ◌≤◌, List, length, slice_get, slice_index, Some}
use Rattle.std.specs.FinMap.{get}
use Rattle.om_format.specs.declared.queue.QueueEntry.{QueueEntry}
use Rattle.om_format.specs.Receipts.{ReceiptRecord, SpellsReceipt}
use Rattle.om_format.specs.Checkpoints.{CheckpointRecord, IsSpelled}
use Rattle.om_stable.specs.Content.{Content}
use Rattle.om_process.specs.Process.{Process}
use Rattle.om_process.specs.Core.{CoreState}
use Rattle.om_process.specs.Turns.{Reaches}
use Rattle.om_process.specs.Parts.{IsTrimmed}
use Rattle.om_process.specs.Replays.{process_of_checkpoint}
use Rattle.om_process.specs.Dependencies.{count_from}
use Rattle.om_process.specs.Claims.{AtInterval, CheckpointOf, HasEntry, RecordOf, RowOf}
use Rattle.om_recover.specs.Rows.{HasRow}
use Rattle.om_recover.specs.Cutting.{IsEffective}
use Rattle.om_recover.specs.declared.row.Row.{Row}
use Rattle.om_recover.specs.declared.row.RowKind.{RowKind}
use Rattle.om_recover.specs.declared.row.RowKind.TheVariants.{Checkpoint, Log}
use Rattle.om_manager.specs.Outputs.{HeldOutput}
use Rattle.om_manager.specs.State.{released_by}
use Rattle.om_world.specs.declared.process_state.ProcessState.{ProcessState}
use Rattle.om_world.specs.Live.{program_at, received, Legal}
use Rattle.om_world.specs.World.{WorldState, recovered, output_entry}

-- a core is where its process's receipts lead, with their dependencies and counts; and of what the process made for others,
-- it keeps whatever they have not received
pub record StandsAt (w : WorldState) (p : ℕ) (c : CoreState) : Type 0 where
  pub whole : Process
  pub reaches : Reaches (program_at w.programs p) p (length w.programs) (received p w.live) whole
  pub keeps : IsTrimmed whole c.now
  pub row : RowOf p (length w.programs) c.now.vec c.now.got (received p w.live)
  pub undelivered : (q number : ℕ) (e : QueueEntry) → q < length w.programs → count_from p (received q w.live) ≤ number
      → HasEntry whole.queues q number e → HasEntry c.now.queues q number e

-- the released outputs are the first of those that the process makes along its receipts
abbrev pub ReleasedFirst : WorldState → ℕ → Type 0
ReleasedFirst w p =
    (s : Process) × Reaches (program_at w.programs p) p (length w.programs) (received p w.live) s
    × ((i : ℕ) (o : HeldOutput) → slice_get (released_by w.manager p) i ≡ Some o
    → HasEntry s.queues (length w.programs) i (output_entry o))

-- the record of a row stands in the store of process p: the spelling of a checkpoint of that process in this interval, or of
-- the receipt that began it, as the run without failures leads it there
abbrev pub HasRecord : WorldState → ℕ → Content → RowKind → ℕ → Type 0
HasRecord w p held Checkpoint x =
    (bytes : List ℕ) × (get held.checkpoints x ≡ Some bytes)
    × (c : CheckpointRecord) × IsSpelled c bytes × (c.head.pid ≡ p) × (c.n ≡ length w.programs)
    × AtInterval (received p w.live) x (CheckpointOf (program_at w.programs p) p (length w.programs) (process_of_checkpoint c))
HasRecord w p held Log x =
    (bytes : List ℕ) × (get held.receipts x ≡ Some bytes)
    × (r : ReceiptRecord) × SpellsReceipt r bytes
    × AtInterval (received p w.live) x (RecordOf (program_at w.programs p) p (length w.programs) r)

-- a record that a replay from this checkpoint may want: the checkpoint itself or a later one, or a receipt after it
abbrev pub IsWanted : ℕ → RowKind → ℕ → Type 0
IsWanted effective Checkpoint x = effective ≤ x
IsWanted effective Log x = effective < x

pub record Holds (w : WorldState) : Type 0 where
  -- what was received and not cut is a run without failures
  pub legal : Legal w.programs w.live
  -- each process that is up stands where that run leads it, and knows the manager's round
  pub up : (p : ℕ) (c : CoreState) → slice_get w.cores p ≡ Some (Some c) → slice_get w.places p ≡ Some ProcessState.Up
      → StandsAt w p c × (c.round ≡ w.manager.round)
  -- and so does each that is in, while the gathering that it joined is open
  pub gathered : (p : ℕ) (c : CoreState) → slice_get w.cores p ≡ Some (Some c) → slice_get w.places p ≡ Some ProcessState.In
      → slice_index w.rounds p ≡ w.manager.round → StandsAt w p c
  -- what is released is what that run puts out
  pub released : (p : ℕ) → p < length w.programs → ReleasedFirst w p
  -- each row that a replay may want has its record
  pub backed : (row : Row) (held : Content) (c : ℕ) → HasRow w.manager.rows row → slice_get w.contents row.pid ≡ Some held
      → IsEffective w.manager.rows row.pid (recovered w.manager row.pid) c → IsWanted c row.kind row.interval
      → HasRecord w row.pid held row.kind row.interval
