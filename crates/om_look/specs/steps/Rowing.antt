-- The rows of a store as they are read, a segment at a time.
use Rattle.std.specs.Prelude.{◌≡◌, ◌≢◌, ◌⊎◌, ℕ, ◌+◌, List, ◌∷◌, ◌++◌, Option, Some, None, slice_index}
use Rattle.std.specs.List.{slice_get}
use Rattle.om_format.specs.Receipts.{ReceiptRecord, SpellsReceipt}
use Rattle.om_format.specs.Checkpoints.{CheckpointRecord, IsSpelled}
use Rattle.om_format.specs.declared.error.DecodeError.{DecodeError}
use Rattle.om_format.specs.declared.error.DecodeError.TheVariants as decoding
use Rattle.om_stable.specs.Content.{Content, IsFree}
use Rattle.om_process.specs.declared.row.PendingRow.{PendingRow}
use Rattle.om_look.specs.declared.fault.LookFault.{LookFault}
use Rattle.om_look.specs.declared.fault.LookFault.TheVariants as looking
use Rattle.om_look.specs.declared.rows.RowsFault.{RowsFault}
use Rattle.om_look.specs.declared.rows.RowsFault.TheVariants.{Damaged, Mismatch, Fault, Memory}
use Rattle.om_look.specs.Rows.{IsBase, IsReceiptOf, IsSegment, Lead, base_row, interval_before}

-- a fault of a look as one of rows
abbrev pub looked : LookFault → RowsFault
looked looking.Fault = Fault
looked looking.Memory = Memory

-- the fault is the store's or that of memory
abbrev pub IsOfStore : RowsFault → Type 0
IsOfStore fault = (fault ≡ Fault) ⊎ (fault ≡ Memory)

-- why bytes of an interval that are not decoded are refused
abbrev pub damage_of : ℕ → DecodeError → RowsFault
damage_of x decoding.Memory = Memory
damage_of x error = Damaged x

-- why bytes are no checkpoint of this interval of process own of n
abbrev pub RefusesBase : ℕ → ℕ → ℕ → List ℕ → RowsFault → Type 0
RefusesBase own n x bytes (Damaged y) = (y ≡ x) × ((c : CheckpointRecord) → IsSpelled c bytes → IsBase own n x c → ⊥)
RefusesBase own n x bytes Memory = Unit {0}
RefusesBase own n x bytes _ = ⊥

-- why bytes are no receipt of this interval of process own of n
abbrev pub RefusesReceipt : ℕ → ℕ → ℕ → List ℕ → RowsFault → Type 0
RefusesReceipt own n x bytes (Damaged y) = (y ≡ x) × ((r : ReceiptRecord) → SpellsReceipt r bytes → IsReceiptOf own n x r → ⊥)
RefusesReceipt own n x bytes Memory = Unit {0}
RefusesReceipt own n x bytes _ = ⊥

-- why bytes are not the receipt that comes next behind a row of process own of n
abbrev pub RefusesNext : ℕ → ℕ → PendingRow → List ℕ → RowsFault → Type 0
RefusesNext own n before bytes (Mismatch y) =
    (y ≡ before.x + 1)
    × ((r : ReceiptRecord) × SpellsReceipt r bytes × IsReceiptOf own n (before.x + 1) r × (r.ssn ≢ slice_index before.got r.from))
RefusesNext own n before bytes fault = RefusesReceipt own n (before.x + 1) bytes fault

-- the receipt is that of this interval among records
abbrev pub IsIn : List (ℕ × List ℕ) → ℕ → ReceiptRecord → Type 0
IsIn records x r =
    (i : ℕ) × (record_at : ℕ × List ℕ) × (slice_get records i ≡ Some record_at) × (record_at.0 ≡ x) × SpellsReceipt r record_at.1

-- records lead from a row to another one
abbrev pub LeadTo : ℕ → ℕ → List (ℕ × List ℕ) → PendingRow → PendingRow → Type 0
LeadTo own n records first last = (rs : List ReceiptRecord) × Lead own n (IsIn records) first rs last

-- records lead to a row, and this is why the one of the next interval does not come next
pub record StopAt (own n : ℕ) (base : PendingRow) (records : List (ℕ × List ℕ)) (fault : RowsFault) : Type 0 where
  pub before : PendingRow
  pub lead : LeadTo own n records base before
  pub place : ℕ
  pub record_at : ℕ × List ℕ
  pub there : slice_get records place ≡ Some record_at
  pub next : record_at.0 ≡ before.x + 1
  pub why : RefusesNext own n before record_at.1 fault

-- why records do not follow on a row
abbrev pub RefusesFollowing : ℕ → ℕ → PendingRow → List (ℕ × List ℕ) → RowsFault → Type 0
RefusesFollowing own n base records fault = (fault ≡ Memory) ⊎ StopAt own n base records fault

-- why one of the records is no receipt of its interval
abbrev pub RefusesOneOf : ℕ → ℕ → List (ℕ × List ℕ) → RowsFault → Type 0
RefusesOneOf own n records fault =
    (fault ≡ Memory)
    ⊎ ((i : ℕ) × (record_at : ℕ × List ℕ) × (slice_get records i ≡ Some record_at) × RefusesReceipt own n record_at.0 record_at.1 fault)

-- the effective checkpoint of an interval gives rows and it is gone on below, or there is none
abbrev pub FindsSegment : ℕ → ℕ → Content → ℕ → List PendingRow → Option ℕ → List PendingRow → Type 0
FindsSegment own n held to old next new =
    (IsFree held.checkpoints 0 (to + 1) × (next ≡ None) × (new ≡ old))
    ⊎ ((c : CheckpointRecord) × (behind : List PendingRow) × IsSegment own n held to c behind
    × (next ≡ interval_before c.head.interval) × (new ≡ old ++ base_row c ∷ behind))
