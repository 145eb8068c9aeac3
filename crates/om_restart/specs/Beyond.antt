-- What a store holds beyond the start of its process.
use Rattle.std.specs.Prelude.{◌≡◌, ◌⊎◌, ℕ, ◌<◌, ◌≤◌, List, false, IsSome, IsTrue, length}
use Rattle.std.specs.FinMap.{get}
use Rattle.std.specs.List.{All, Any}
use Rattle.om_process.specs.declared.limits.TheConstants.{LAST_INTERVAL}
use Rattle.om_process.specs.declared.row.PendingRow.{PendingRow}
use Rattle.om_stable.specs.Content.{Content}
use Rattle.om_restart.specs.declared.found.Found.{Found}

-- a receipt is stored that lies behind all rows
abbrev pub HasStray : Content → List PendingRow → Type 0
HasStray held rows = (y : ℕ) × IsSome (get held.receipts y) × (0 < y) × (y ≤ LAST_INTERVAL) × All (λ row. row.x < y) rows

-- one of the rows is of a receipt, or one is stored that lies behind them all
abbrev pub HasReceipt : Content → List PendingRow → Type 0
HasReceipt held rows = Any (λ row. row.ckpt ≡ false) rows ⊎ HasStray held rows

-- more than one row, one of a later interval, a receipt, an output or a sender
abbrev pub IsBeyondStart : Found → Type 0
IsBeyondStart found =
    (1 < length found.rows.items) ⊎ (Any (λ row. 0 < row.x) found.rows.items)
    ⊎ IsTrue found.has_receipt ⊎ (0 < length found.outputs.items) ⊎ (0 < length found.senders.items)
