-- Replays: a checkpoint as a process, and what stored receipts make of it.
use Rattle.std.specs.Prelude.{◌≡◌, ℕ, ◌+◌, ◌<◌, List, [], ◌∷◌, ◌++◌, slice_index}
use Rattle.om_machine.specs.State.{restored}
use Rattle.om_format.specs.Receipts.{ReceiptRecord}
use Rattle.om_format.specs.Checkpoints.{CheckpointRecord}
use Rattle.om_process.specs.Process.{Process, Received, delivered}
use Rattle.om_process.specs.Turns.{Turns, IsWaiting}

-- the process that a checkpoint is of
abbrev pub process_of_checkpoint : CheckpointRecord → Process
process_of_checkpoint c = record {
  machine = restored c.head.regs c.head.pc c.head.count c.memory c.head.ext;
  interval = c.head.interval;
  vec = c.head.vec;
  got = c.head.got;
  queues = c.kept ++ c.outputs ∷ [];
}

-- what a stored receipt delivered
abbrev pub received_of : ReceiptRecord → Received
received_of r = record { from = r.from; interval = r.sender_interval; body = r.body }

-- the receipt may be delivered to the process as it waits
pub record FitsReceipt (own n : ℕ) (w : Process) (r : ReceiptRecord) : Type 0 where
  pub to : r.to ≡ own
  pub from : r.from < n
  pub interval : r.interval ≡ w.interval + 1
  pub number : r.ssn ≡ slice_index w.got r.from
  pub count : r.count ≡ w.machine.count
  pub waits : IsWaiting own n w

-- from this state by these receipts: each is delivered after as many turns as bring the count to the stored one, and no
-- turn comes after the last
abbrev pub Replayed : ℕ → ℕ → Process → List ReceiptRecord → Process → Type 0
Replayed own n c [] t = t ≡ c
Replayed own n c (r ∷ rs) t =
    (k : ℕ) × (w : Process) × Turns own n k c w × FitsReceipt own n w r
    × Replayed own n (delivered own w (received_of r)) rs t
