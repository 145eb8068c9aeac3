-- The bytes of a receipt, as they are written.
use Rattle.std.specs.Prelude.{ℕ, List, [], ◌∷◌, ◌++◌, ◌<◌, ◌≤◌, ◌^◌, slice_index, length}
use Rattle.std.specs.Int.{w16, w32, w64, to_le_bytes}
use Rattle.om_interval.specs.declared.pid.TheConstants.{MAX_PROCESSES}
use Rattle.om_format.specs.declared.limits.TheConstants.{MAX_BODY, RECEIPT_KIND, RECEIPT_VERSION}
use Rattle.om_format.specs.Receipts.{ReceiptRecord}

-- its fields, one after the other
abbrev pub receipt_bytes : ReceiptRecord → List ℕ
receipt_bytes r =
    (RECEIPT_KIND ∷ RECEIPT_VERSION ∷ []) ++ (r.to ∷ r.from ∷ []) ++ to_le_bytes w32 r.interval
    ++ to_le_bytes w32 r.sender_interval ++ to_le_bytes w32 r.ssn ++ to_le_bytes w64 r.count
    ++ to_le_bytes w16 (length r.body) ++ r.body

-- what holds of every receipt: its fields are within their bytes and allowed
pub record IsReceipt (r : ReceiptRecord) : Type 0 where
  pub to : r.to < MAX_PROCESSES
  pub from : r.from < MAX_PROCESSES
  pub interval : r.interval < 2 ^ 32
  pub sender_interval : r.sender_interval < 2 ^ 32
  pub ssn : r.ssn < r.interval
  pub count : r.count < 2 ^ 64
  pub len : length r.body ≤ MAX_BODY
  pub body : (i : ℕ) → slice_index r.body i < 256
