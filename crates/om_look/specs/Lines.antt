-- The lines of records: what a record says, or its first fault.
use Rattle.std.specs.Prelude.{◌≡◌, ◌⊎◌, ℕ, List, [], ◌∷◌, ◌++◌, length, codes, decimal, slice_index, Option, Some, if◌then◌else◌, nat_eq}
use Rattle.om_format.specs.Checkpoints.{CheckpointRecord, IsSpelled, checkpoint_fault}
use Rattle.om_format.specs.Receipts.{ReceiptRecord, SpellsReceipt, receipt_fault}
use Rattle.om_format.specs.declared.error.DecodeError.{DecodeError}
use Rattle.om_format.specs.declared.error.DecodeError.TheVariants as decoding

-- a fault of bytes; for want of memory none is told
abbrev pub fault_text : DecodeError → List ℕ
fault_text decoding.Short = codes "short"
fault_text decoding.Kind = codes "kind"
fault_text decoding.Version = codes "version"
fault_text (decoding.Field offset) = codes "field " ++ decimal offset
fault_text decoding.Trailing = codes "trailing"
fault_text decoding.Memory = []

-- the fault of a record that names another interval
abbrev pub another_text : ℕ → List ℕ
another_text y = codes " damaged interval " ++ decimal y

-- a checkpoint, and these bytes of it, of which the second is the version
unfoldable pub head_text : CheckpointRecord → List ℕ → List ℕ
head_text c bytes =
    codes " process " ++ decimal c.head.pid ++ codes " of " ++ decimal c.n
    ++ codes " count " ++ decimal c.head.count ++ codes " version " ++ decimal (slice_index bytes 1)
    ++ codes " bytes " ++ decimal (length bytes)

-- what is told of a receipt
unfoldable pub message_text : ReceiptRecord → List ℕ
message_text r =
    codes " from " ++ decimal r.from ++ codes " interval " ++ decimal r.sender_interval
    ++ codes " number " ++ decimal r.ssn ++ codes " count " ++ decimal r.count
    ++ codes " bytes " ++ decimal (length r.body)

-- what the record of an interval says as a checkpoint
abbrev pub checkpoint_text : ℕ × List ℕ → CheckpointRecord → List ℕ
checkpoint_text row c = if nat_eq c.head.interval row.0 then head_text c row.1 else another_text c.head.interval

-- what the record of an interval says as a receipt
abbrev pub receipt_text : ℕ → ReceiptRecord → List ℕ
receipt_text x r = if nat_eq r.interval x then message_text r else another_text r.interval

-- what bytes say as such a record: the text of what they spell, or their first fault
abbrev pub Says : {Record : Type 0} → (Record → List ℕ → Type 0) → (List ℕ → Option DecodeError) → (Record → List ℕ) → List ℕ → List ℕ → Type 0
Says IsSpelled fault text bytes said =
    ((r : _) × IsSpelled r bytes × (said ≡ text r)) ⊎ ((f : DecodeError) × (fault bytes ≡ Some f) × (said ≡ codes " damaged " ++ fault_text f))

-- the lines of a checkpoint and of a receipt, by interval and bytes
abbrev pub IsCheckpointLine : ℕ × List ℕ → List ℕ → Type 0
IsCheckpointLine row line =
    (said : List ℕ) × Says IsSpelled checkpoint_fault (checkpoint_text row) row.1 said × (line ≡ codes "checkpoint " ++ decimal row.0 ++ said ++ 10 ∷ [])

abbrev pub IsReceiptLine : ℕ × List ℕ → List ℕ → Type 0
IsReceiptLine row line =
    (said : List ℕ) × Says SpellsReceipt receipt_fault (receipt_text row.0) row.1 said × (line ≡ codes "receipt " ++ decimal row.0 ++ said ++ 10 ∷ [])

-- a line for each row, in order
abbrev pub AreLines : {Row : Type 0} → (Row → List ℕ → Type 0) → List Row → List ℕ → Type 0
AreLines IsLine [] text = text ≡ []
AreLines IsLine (row ∷ rows) text = (line : List ℕ) × (rest : List ℕ) × IsLine row line × AreLines IsLine rows rest × (text ≡ line ++ rest)
