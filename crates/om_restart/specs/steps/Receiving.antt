-- The receipts that rows tell, and the senders that follow on others.
use Rattle.std.specs.Prelude.{◌≡◌, ◌≢◌, ℕ, ◌+◌, ◌<◌, ◌≤◌, List, Some, false, Contains, length, slice_get, slice_index, take}
use Rattle.om_process.specs.declared.row.PendingRow.{PendingRow}

-- q is the first place at which the lists differ
pub record IsFirstChange (old new : List ℕ) (q : ℕ) : Type 0 where
  pub in_old : q < length old
  pub in_new : q < length new
  pub differs : slice_index old q ≢ slice_index new q
  pub same : (k : ℕ) → k < q → slice_index old k ≡ slice_index new k

-- the row is of a receipt from the process at place q, by the row before it
pub record IsFrom (before row : PendingRow) (q : ℕ) : Type 0 where
  pub receipt : row.ckpt ≡ false
  pub change : IsFirstChange before.got row.got q

-- the intervals of the receipts that the first m rows tell, with the places of their senders
pub record AreReceivedBy (m : ℕ) (rows : List PendingRow) (received : List (ℕ × ℕ)) : Type 0 where
  pub told : (e : ℕ × ℕ) → Contains received e → (i : ℕ) × (before : PendingRow) × (row : PendingRow) × (i + 1 < m)
      × (slice_get rows i ≡ Some before) × (slice_get rows (i + 1) ≡ Some row) × (e.0 ≡ row.x) × IsFrom before row e.1
  pub all : (i q : ℕ) (before row : PendingRow) → i + 1 < m → slice_get rows i ≡ Some before → slice_get rows (i + 1) ≡ Some row
      → IsFrom before row q → q < 256 → Contains received (row.x, q)

-- these senders go on behind the first ones with those that were received, up to a gap
pub record GoOnBehind (received : List (ℕ × ℕ)) (first senders : List ℕ) : Type 0 where
  pub within : length first ≤ length senders
  pub begins : take (length first) senders ≡ first
  pub follow : (k q : ℕ) → length first ≤ k → slice_get senders k ≡ Some q → Contains received (k + 1, q)
  pub end : (e : ℕ × ℕ) → Contains received e → e.0 ≢ length senders + 1
