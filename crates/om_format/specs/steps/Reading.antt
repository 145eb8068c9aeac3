-- Reading a receipt from left to right.
use Rattle.std.specs.Prelude.{ℕ, ◌+◌, ◌*◌, ◌==◌, List, [], ◌∷◌, length, take, drop, Bool, true, false, Result, Ok, Err, nat_lt, nat_le, if◌then◌else◌, ◌≡◌}
use Rattle.std.specs.Int.{from_le_bytes}
use Rattle.om_interval.specs.declared.pid.TheConstants.{MAX_PROCESSES}
use Rattle.om_format.specs.declared.error.DecodeError.{DecodeError}
use Rattle.om_format.specs.declared.error.DecodeError.TheVariants.{Short, Kind, Version, Field, Trailing}
use Rattle.om_format.specs.declared.limits.TheConstants.{RECEIPT_KIND, RECEIPT_VERSION}
use Rattle.om_format.specs.Formats.{Size, one, two, four, eight, bytes_in, width, Format, end, field, is_body_size}
use Rattle.om_format.specs.FirstFault.{values_at}
use Rattle.om_format.specs.Receipts.{ReceiptRecord}

-- a reading, and then the next one of what it gave; the first fault ends both
infixl 10 ◌>>=◌
abbrev pub ◌>>=◌ : {A B : Type 0} → Result A DecodeError → (A → Result B DecodeError) → Result B DecodeError
(Ok x) >>= next = next x
(Err fault) >>= next = Err fault

-- what is allowed is no fault
abbrev pub allow : Bool → DecodeError → Result (Unit {0}) DecodeError
allow true fault = Ok tt
allow false fault = Err fault

-- so many numbers, and the bytes after them
unfoldable pub numbers_at : Size → ℕ → List ℕ → Result (List ℕ × List ℕ) DecodeError
numbers_at size count bytes =
    if nat_lt (length bytes) (count * bytes_in size) then Err Short
    else Ok (values_at size count bytes, drop (count * bytes_in size) bytes)

-- the values of a format's fields
abbrev pub fields_at : Format → ℕ → List ℕ → Result (List (List ℕ)) DecodeError
fields_at end offset [] = Ok []
fields_at end offset (byte ∷ bytes) = Err Trailing
fields_at (field size count allowed fault behind) offset bytes = do
  values ← numbers_at size count bytes
  fine ← allow (allowed values.0) (fault offset)
  rest ← fields_at (behind values.0) (offset + count * bytes_in size) values.1
  Ok (values.0 ∷ rest)

-- a number, and the bytes after it
unfoldable pub number_at : Size → List ℕ → Result (ℕ × List ℕ) DecodeError
number_at size bytes =
    if nat_lt (length bytes) (bytes_in size) then Err Short
    else Ok (from_le_bytes (width size) (take (bytes_in size) bytes), drop (bytes_in size) bytes)

-- a kind and a version, and the bytes after them
unfoldable pub opening_at : (ℕ → Bool) → (ℕ → Bool) → List ℕ → Result (ℕ × ℕ × List ℕ) DecodeError
opening_at is_kind is_version bytes = do
  kind ← number_at one bytes
  fine ← allow (is_kind kind.0) Kind
  version ← number_at one kind.1
  known ← allow (is_version version.0) Version
  Ok (kind.0, version.0, version.1)

-- the number of a process, from a field at this offset
unfoldable pub pid_at : ℕ → List ℕ → Result (ℕ × List ℕ) DecodeError
pid_at offset bytes = do
  pid ← number_at one bytes
  fine ← allow (nat_lt pid.0 MAX_PROCESSES) (Field offset)
  Ok pid

-- so many bytes, and those after them
unfoldable pub bytes_at : ℕ → List ℕ → Result (List ℕ × List ℕ) DecodeError
bytes_at count bytes = if nat_lt (length bytes) count then Err Short else Ok (take count bytes, drop count bytes)

-- a length and so many bytes, from fields the first of which is at this offset
unfoldable pub counted_at : Size → (ℕ → Bool) → ℕ → List ℕ → Result (List ℕ × List ℕ) DecodeError
counted_at size allowed offset bytes = do
  len ← number_at size bytes
  fine ← allow (allowed len.0) (Field offset)
  bytes_at len.0 len.1

-- a body, from fields the first of which is at this offset
abbrev pub body_at : ℕ → List ℕ → Result (List ℕ × List ℕ) DecodeError
body_at offset bytes = counted_at two is_body_size offset bytes

-- nothing is left
unfoldable pub end_at : List ℕ → Result (Unit {0}) DecodeError
end_at [] = Ok tt
end_at (byte ∷ bytes) = Err Trailing

-- the receiver and the sender of a receipt, and the bytes after them
unfoldable pub ends_at : List ℕ → Result (ℕ × ℕ × List ℕ) DecodeError
ends_at bytes = do
  opened ← opening_at (λ kind. kind == RECEIPT_KIND) (λ version. version == RECEIPT_VERSION) bytes
  to ← pid_at 2 opened.2
  from ← pid_at 3 to.1
  Ok (to.0, from.0, from.1)

-- the interval of the receiver, that of the sender, the number of the message, and the bytes after them
unfoldable pub order_at : List ℕ → Result (ℕ × ℕ × ℕ × List ℕ) DecodeError
order_at bytes = do
  interval ← number_at four bytes
  is_above ← allow (nat_le 1 interval.0) (Field 4)
  sender ← number_at four interval.1
  ssn ← number_at four sender.1
  is_below ← allow (nat_lt ssn.0 interval.0) (Field 12)
  Ok (interval.0, sender.0, ssn.0, ssn.1)

-- the fields of a receipt, and the bytes after them
unfoldable pub receipt_fields_at : List ℕ → Result (ReceiptRecord × List ℕ) DecodeError
receipt_fields_at bytes = do
  ends ← ends_at bytes
  order ← order_at ends.2
  count ← number_at eight order.3
  body ← body_at 24 count.1
  Ok (
    record {
      to = ends.0;
      from = ends.1;
      interval = order.0;
      sender_interval = order.1;
      ssn = order.2;
      count = count.0;
      body = body.0;
    },
    body.1,
  )

-- a whole receipt
unfoldable pub receipt_at : List ℕ → Result ReceiptRecord DecodeError
receipt_at bytes = do
  fields ← receipt_fields_at bytes
  ended ← end_at fields.1
  Ok fields.0

-- what is behind an offset is behind where the reading stopped
abbrev pub LeavesBehind : ℕ → List ℕ → ℕ → List ℕ → Type 0
LeavesBehind offset bytes stop rest = stop + length rest ≡ offset + length bytes
