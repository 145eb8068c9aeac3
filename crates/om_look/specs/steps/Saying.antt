-- What a record says, as a checkpoint and as a receipt.
use Rattle.std.specs.Prelude.{◌≡◌, ◌⊎◌, ℕ, List, ◌++◌, codes, Some}
use Rattle.om_format.specs.Checkpoints.{CheckpointRecord, IsSpelled, checkpoint_fault}
use Rattle.om_format.specs.Receipts.{ReceiptRecord, SpellsReceipt, receipt_fault}
use Rattle.om_format.specs.declared.error.DecodeError.{DecodeError}
use Rattle.om_look.specs.Lines.{checkpoint_text, fault_text, receipt_text}

-- a record that does not decode, and one that names another interval
abbrev pub damage_text : DecodeError → List ℕ
damage_text fault = codes " damaged " ++ fault_text fault

abbrev pub SaysCheckpoint : ℕ × List ℕ → List ℕ → Type 0
SaysCheckpoint row said =
    ((c : CheckpointRecord) × IsSpelled c row.1 × (said ≡ checkpoint_text row c))
    ⊎ ((fault : DecodeError) × (checkpoint_fault row.1 ≡ Some fault) × (said ≡ damage_text fault))

abbrev pub SaysReceipt : ℕ × List ℕ → List ℕ → Type 0
SaysReceipt row said =
    ((r : ReceiptRecord) × SpellsReceipt r row.1 × (said ≡ receipt_text row.0 r))
    ⊎ ((fault : DecodeError) × (receipt_fault row.1 ≡ Some fault) × (said ≡ damage_text fault))
