-- The bodies of the messages that a store holds, as text.
use Rattle.std.specs.Prelude.{◌≡◌, ◌⊎◌, ℕ, List, [], ◌∷◌, ◌++◌, codes, decimal, Some, if◌then◌else◌, nat_eq}
use Rattle.om_commands.specs.Quoted.{bytes_text}
use Rattle.om_commands.specs.declared.bytes_text.BytesForm.{BytesForm}
use Rattle.om_format.specs.Receipts.{ReceiptRecord, SpellsReceipt, receipt_fault}
use Rattle.om_format.specs.declared.error.DecodeError.{DecodeError}
use Rattle.om_look.specs.Lines.{AreLines}
use Rattle.om_process.specs.declared.limits.TheConstants.{LAST_INTERVAL}
use Rattle.om_stable.specs.Content.{Content, between}

-- the line of a message, of which the receipt of an interval tells: none where it tells of another interval
abbrev pub message_line : BytesForm → ℕ → ReceiptRecord → List ℕ
message_line form x r =
    if nat_eq r.interval x
    then codes "body " ++ decimal x ++ codes " from " ++ decimal r.from ++ 32 ∷ bytes_text form r.body ++ 10 ∷ []
    else []

-- the line of a receipt, by interval and bytes: none where the bytes spell no receipt
abbrev pub IsBodyLine : BytesForm → ℕ × List ℕ → List ℕ → Type 0
IsBodyLine form row line =
    ((r : ReceiptRecord) × SpellsReceipt r row.1 × (line ≡ message_line form row.0 r))
    ⊎ ((fault : DecodeError) × (receipt_fault row.1 ≡ Some fault) × (line ≡ []))

-- a line for the body of each receipt, in order
abbrev pub AreBodies : BytesForm → Content → List ℕ → Type 0
AreBodies form held text = AreLines (IsBodyLine form) (between held.receipts 0 LAST_INTERVAL) text
