-- What a store tells of the senders of the receipts of its process.
use Rattle.std.specs.Prelude.{◌≡◌, ◌≢◌, ℕ, ◌+◌, ◌≤◌, List, Some, false, Contains, length, slice_get, take}
use Rattle.std.specs.List.{flat_map}
use Rattle.om_format.specs.Receipts.{ReceiptRecord}
use Rattle.om_look.specs.Rows.{IsReceiptOf}
use Rattle.om_process.specs.Stored.{IsReceiptAt}
use Rattle.om_process.specs.declared.row.PendingRow.{PendingRow}
use Rattle.om_stable.specs.Content.{Content}

-- the bytes of rows, one after another
abbrev pub joined : List (ℕ × List ℕ) → List ℕ
joined rows = flat_map (λ row. row.1) rows

-- the senders are the bytes of the rows of a table, and the number of each row is how many come before it
pub record AreSendersIn (rows : List (ℕ × List ℕ)) (senders : List ℕ) : Type 0 where
  pub whole : senders ≡ joined rows
  pub numbered : (i : ℕ) (row : ℕ × List ℕ) → slice_get rows i ≡ Some row → row.0 ≡ length (joined (take i rows))

-- behind the first `kept` come the senders of the stored receipts that follow on them, that of interval k + 1 at place k; and no
-- row is of a receipt that follows on all
pub record GoOnAlong (own n : ℕ) (held : Content) (rows : List PendingRow) (kept : ℕ) (senders : List ℕ) : Type 0 where
  pub within : kept ≤ length senders
  pub stored : (k q : ℕ) → kept ≤ k → slice_get senders k ≡ Some q
      → (r : ReceiptRecord) × IsReceiptAt held.receipts (k + 1) r × IsReceiptOf own n (k + 1) r × (r.from ≡ q)
  pub end : (row : PendingRow) → Contains rows row → row.ckpt ≡ false → row.x ≢ length senders + 1
