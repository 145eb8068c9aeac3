-- Receipts that may be delivered once more.
use Rattle.std.specs.Prelude.{◌≡◌, ◌≢◌, ℕ, ◌<◌, ◌≤◌, ◌⊎◌, slice_index}
use Rattle.om_format.specs.Receipts.{ReceiptRecord}
use Rattle.om_process.specs.Process.{Process}
use Rattle.om_process.specs.Turns.{Turns, IsWaiting}
use Rattle.om_process.specs.Core.{CoreState, cluster_size}

-- the receipt is the core's, of a sender that is there and the next of its sender, and its count is not yet passed
pub record MayTake (c : CoreState) (r : ReceiptRecord) : Type 0 where
  pub to : r.to ≡ c.own
  pub from : r.from < cluster_size c.now
  pub number : r.ssn ≡ slice_index c.now.got r.from
  pub count : c.now.machine.count ≤ r.count

-- turns lead to a wait, at this count
abbrev pub WaitsAt : ℕ → ℕ → Process → ℕ → Type 0
WaitsAt own n s count = (k : ℕ) × (w : Process) × Turns own n k s w × IsWaiting own n w × (w.machine.count ≡ count)

-- the receipt does not fit process own of n in this state: it is another receiver's, of a sender that is not there, or not the
-- next of its sender, or the process does not wait at the stored count
abbrev pub DoesNotFit : ℕ → ℕ → Process → ReceiptRecord → Type 0
DoesNotFit own n s r =
    (r.to ≢ own) ⊎ ((n ≤ r.from) ⊎ ((r.ssn ≢ slice_index s.got r.from) ⊎ (WaitsAt own n s r.count → ⊥)))
