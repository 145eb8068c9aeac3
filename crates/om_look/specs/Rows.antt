-- The rows that the records of a store stand for, as a manager is told them.
use Rattle.std.specs.Prelude.{◌≡◌, ◌≢◌, ◌⊎◌, ℕ, true, false, ◌+◌, ◌-◌, ◌<◌, if◌then◌else◌, nat_eq, List, [], ◌∷◌, ◌++◌, Option, Some, None, IsSome, min, slice_index, slice_set}
use Rattle.std.specs.FinMap.{get}
use Rattle.std.specs.List.{AllZip}
use Rattle.om_format.specs.Receipts.{ReceiptRecord, SpellsReceipt}
use Rattle.om_format.specs.Checkpoints.{CheckpointRecord}
use Rattle.om_stable.specs.Content.{Content, IsEffective, IsFree, between}
use Rattle.om_process.specs.Process.{raised}
use Rattle.om_process.specs.Stored.{IsCheckpointAt, IsReceiptAt}
use Rattle.om_process.specs.declared.limits.TheConstants.{LAST_INTERVAL}
use Rattle.om_process.specs.declared.row.PendingRow.{PendingRow}
use Rattle.om_look.specs.declared.rows.RowsFault.{RowsFault}
use Rattle.om_look.specs.declared.rows.RowsFault.TheVariants.{Damaged, Mismatch, Fault, Memory}

-- the row of a checkpoint
abbrev pub base_row : CheckpointRecord → PendingRow
base_row c = record { ckpt = true; x = c.head.interval; vec = c.head.vec; got = c.head.got }

-- the row of a receipt of process own, by the row of the interval before
abbrev pub next_row : ℕ → PendingRow → ReceiptRecord → PendingRow
next_row own before r = record {
  ckpt = false;
  x = before.x + 1;
  vec = slice_set (raised before.vec r.from r.sender_interval) own (before.x + 1);
  got = slice_set before.got r.from (slice_index before.got r.from + 1);
}

-- the record is a checkpoint of process own of n, of this interval
pub record IsBase (own n x : ℕ) (c : CheckpointRecord) : Type 0 where
  pub pid : c.head.pid ≡ own
  pub size : c.n ≡ n
  pub interval : c.head.interval ≡ x

-- the record is a receipt of process own of n from one of them, of this interval
pub record IsReceiptOf (own n x : ℕ) (r : ReceiptRecord) : Type 0 where
  pub to : r.to ≡ own
  pub from : r.from < n
  pub interval : r.interval ≡ x

-- no record of the next interval comes first
abbrev pub IsGap : PendingRow → List (ℕ × List ℕ) → Type 0
IsGap before [] = Unit {0}
IsGap before (record_at ∷ more) = record_at.0 ≢ before.x + 1

-- rows of the records that follow on a row without a gap: each spells the next receipt of its sender
abbrev pub FollowOn : ℕ → ℕ → PendingRow → List (ℕ × List ℕ) → List PendingRow → Type 0
FollowOn own n before records [] = IsGap before records
FollowOn own n before [] (row ∷ rows) = ⊥
FollowOn own n before (record_at ∷ records) (row ∷ rows) =
    (r : ReceiptRecord) × SpellsReceipt r record_at.1 × IsReceiptOf own n record_at.0 r × (record_at.0 ≡ before.x + 1)
    × (r.ssn ≡ slice_index before.got r.from) × (row ≡ next_row own before r) × FollowOn own n row records rows

-- the receipts behind a checkpoint, up to the next one, whose own is among them
abbrev pub receipts_behind : Content → ℕ → ℕ → List (ℕ × List ℕ)
receipts_behind held x to = between held.receipts x (min (to + 1) LAST_INTERVAL)

-- the greatest checkpoint at or below an interval, and the rows of the receipts that follow on it
pub record IsSegment (own n : ℕ) (held : Content) (to : ℕ) (c : CheckpointRecord) (behind : List PendingRow) : Type 0 where
  pub effective : IsEffective held.checkpoints to c.head.interval
  pub stored : IsCheckpointAt held.checkpoints c.head.interval c
  pub pid : c.head.pid ≡ own
  pub size : c.n ≡ n
  pub follow : FollowOn own n (base_row c) (receipts_behind held c.head.interval to) behind

-- the interval before this one, if there is one
abbrev pub interval_before : ℕ → Option ℕ
interval_before x = if nat_eq x 0 then None else Some (x - 1)

-- the segments of a store from an interval, if there is one, down: each begins at the greatest checkpoint that is left
abbrev pub AreSegments : ℕ → ℕ → Content → Option ℕ → List (CheckpointRecord × List PendingRow) → Type 0
AreSegments own n held None [] = Unit {0}
AreSegments own n held None (s ∷ more) = ⊥
AreSegments own n held (Some to) [] = IsFree held.checkpoints 0 (to + 1)
AreSegments own n held (Some to) (s ∷ more) =
    IsSegment own n held to s.0 s.1 × AreSegments own n held (interval_before s.0.head.interval) more

-- the rows of segments, one after another: of each its checkpoint's, and those behind it
abbrev pub rows_of_segments : List (CheckpointRecord × List PendingRow) → List PendingRow
rows_of_segments [] = []
rows_of_segments (s ∷ more) = (base_row s.0 ∷ s.1) ++ rows_of_segments more

-- the rows that the records of the store of process own of n stand for
abbrev pub AreRowsOf : ℕ → ℕ → Content → List PendingRow → Type 0
AreRowsOf own n held rows =
    (segments : List (CheckpointRecord × List PendingRow)) × AreSegments own n held (Some LAST_INTERVAL) segments
    × (rows ≡ rows_of_segments segments)

-- the record is a receipt of process own of n, and this is its interval with its sender
abbrev pub IsSenderOf : ℕ → ℕ → ℕ × List ℕ → ℕ × ℕ → Type 0
IsSenderOf own n record_at sender =
    (r : ReceiptRecord) × SpellsReceipt r record_at.1 × IsReceiptOf own n record_at.0 r × (sender ≡ (record_at.0, r.from))

-- the interval of each receipt of the store of process own of n, ascending, with its sender
abbrev pub AreSendersOf : ℕ → ℕ → Content → List (ℕ × ℕ) → Type 0
AreSendersOf own n held senders = AllZip (IsSenderOf own n) (between held.receipts 0 LAST_INTERVAL) senders

-- what stands in the store as the checkpoint of this interval is none of process own of n
pub record IsNoBase (own n x : ℕ) (held : Content) : Type 0 where
  pub there : IsSome (get held.checkpoints x)
  pub none : (c : CheckpointRecord) → IsCheckpointAt held.checkpoints x c → IsBase own n x c → ⊥

-- what stands in the store as the receipt of this interval is none of process own of n
pub record IsNoReceipt (own n x : ℕ) (held : Content) : Type 0 where
  pub begun : 0 < x
  pub there : IsSome (get held.receipts x)
  pub none : (r : ReceiptRecord) → IsReceiptAt held.receipts x r → IsReceiptOf own n x r → ⊥

-- receipts lead from one row to another without a gap: each is that of the interval after the row before, and the next of its sender
abbrev pub Lead : ℕ → ℕ → (ℕ → ReceiptRecord → Type 0) → PendingRow → List ReceiptRecord → PendingRow → Type 0
Lead own n IsAt first [] last = first ≡ last
Lead own n IsAt first (r ∷ rs) last =
    IsAt (first.x + 1) r × IsReceiptOf own n (first.x + 1) r × (r.ssn ≡ slice_index first.got r.from)
    × Lead own n IsAt (next_row own first r) rs last

-- a checkpoint of the store and the receipts behind it lead to a row, and the receipt of the next interval is not the next of its sender
pub record IsMismatch (own n x : ℕ) (held : Content) : Type 0 where
  pub checkpoint : CheckpointRecord
  pub stored : IsCheckpointAt held.checkpoints checkpoint.head.interval checkpoint
  pub base : IsBase own n checkpoint.head.interval checkpoint
  pub receipts : List ReceiptRecord
  pub before : PendingRow
  pub lead : Lead own n (IsReceiptAt held.receipts) (base_row checkpoint) receipts before
  pub next : x ≡ before.x + 1
  pub receipt : ReceiptRecord
  pub there : IsReceiptAt held.receipts x receipt
  pub is_of : IsReceiptOf own n x receipt
  pub other : receipt.ssn ≢ slice_index before.got receipt.from

-- why records stand for no rows: the checkpoint or the receipt of this interval is none of process own of n, or the receipt
-- is not the next of its sender
abbrev pub RefusesRows : ℕ → ℕ → Content → RowsFault → Type 0
RefusesRows own n held (Damaged x) = IsNoBase own n x held ⊎ IsNoReceipt own n x held
RefusesRows own n held (Mismatch x) = IsMismatch own n x held
RefusesRows own n held Fault = Unit {0}
RefusesRows own n held Memory = Unit {0}

-- why receipts have no senders: that of this interval is none of process own of n
abbrev pub RefusesSenders : ℕ → ℕ → Content → RowsFault → Type 0
RefusesSenders own n held (Damaged x) = IsNoReceipt own n x held
RefusesSenders own n held (Mismatch x) = ⊥
RefusesSenders own n held Fault = Unit {0}
RefusesSenders own n held Memory = Unit {0}
