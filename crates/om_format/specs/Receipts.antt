-- Receipts: what they are, their format, and what bytes spell one.
use Rattle.std.specs.Prelude.{ℕ, ◌==◌, List, [], ◌∷◌, length, Option, nat_lt, nat_le}
use Rattle.om_interval.specs.declared.pid.TheConstants.{MAX_PROCESSES}
use Rattle.om_format.specs.declared.error.DecodeError.{DecodeError}
use Rattle.om_format.specs.declared.limits.TheConstants.{RECEIPT_KIND, RECEIPT_VERSION}
use Rattle.om_format.specs.declared.receipt.Receipt.{Receipt}
use Rattle.om_format.specs.Formats.{one, four, eight, Format, end, any, number, body, opening}
use Rattle.om_format.specs.Spelling.{Spells}
use Rattle.om_format.specs.FirstFault.{first_fault}

-- a receipt without where it lies in memory
pub record ReceiptRecord : Type 0 where
  pub to : ℕ
  pub from : ℕ
  pub interval : ℕ
  pub sender_interval : ℕ
  pub ssn : ℕ
  pub count : ℕ
  pub body : List ℕ

-- what is seen of a receipt
abbrev pub receipt_record : Receipt → ReceiptRecord
receipt_record r = record {
  to = r.to;
  from = r.from;
  interval = r.interval;
  sender_interval = r.sender_interval;
  ssn = r.ssn;
  count = r.count;
  body = r.body;
}

-- the fields of a receipt, from the left
unfoldable pub receipt_format : Format
receipt_format =
    opening (λ kind. kind == RECEIPT_KIND) (λ version. version == RECEIPT_VERSION) λ _.
    number one (λ to. nat_lt to MAX_PROCESSES) λ _.
    number one (λ from. nat_lt from MAX_PROCESSES) λ _.
    number four (λ interval. nat_le 1 interval) λ interval.
    number four any λ _.
    number four (λ ssn. nat_lt ssn interval) λ _.
    number eight any λ _.
    body end

-- the values of these fields
abbrev pub receipt_values : ReceiptRecord → List (List ℕ)
receipt_values r =
    (RECEIPT_KIND ∷ []) ∷ (RECEIPT_VERSION ∷ []) ∷ (r.to ∷ []) ∷ (r.from ∷ []) ∷ (r.interval ∷ [])
    ∷ (r.sender_interval ∷ []) ∷ (r.ssn ∷ []) ∷ (r.count ∷ []) ∷ (length r.body ∷ []) ∷ r.body ∷ []

-- the bytes are the receipt's fields, one after the other, each within its bytes and allowed
abbrev pub SpellsReceipt : ReceiptRecord → List ℕ → Type 0
SpellsReceipt r bytes = Spells receipt_format (receipt_values r) bytes

-- the first fault of bytes that spell no receipt
abbrev pub receipt_fault : List ℕ → Option DecodeError
receipt_fault bytes = first_fault receipt_format 0 bytes
