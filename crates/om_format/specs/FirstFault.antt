-- What is wrong with bytes that are not a record of a format.
use Rattle.std.specs.Prelude.{◌≡◌, ◌⊎◌, ℕ, zero, suc, ◌+◌, ◌*◌, List, [], ◌∷◌, length, take, drop, Option, Some, None, nat_lt, if◌then◌else◌}
use Rattle.std.specs.Int.{from_le_bytes}
use Rattle.om_format.specs.declared.error.DecodeError.{DecodeError}
use Rattle.om_format.specs.declared.error.DecodeError.TheVariants.{Short, Trailing}
use Rattle.om_format.specs.Formats.{Size, bytes_in, width, Format, end, field}

-- so many numbers of one size that stand at the front
abbrev pub values_at : Size → ℕ → List ℕ → List ℕ
values_at size zero bytes = []
values_at size (suc count) bytes = from_le_bytes (width size) (take (bytes_in size) bytes) ∷ values_at size count (drop (bytes_in size) bytes)

-- The first fault of the bytes, whose first is at this offset: the first field from the left that is not whole, or whole
-- and forbidden; where there is none, the bytes after the last field.
abbrev pub first_fault : Format → ℕ → List ℕ → Option DecodeError
first_fault end offset [] = None
first_fault end offset (byte ∷ bytes) = Some Trailing
first_fault (field size count allowed fault behind) offset bytes =
    if nat_lt (length bytes) (count * bytes_in size) then Some Short
    else if allowed (values_at size count bytes) then
    first_fault (behind (values_at size count bytes)) (offset + count * bytes_in size) (drop (count * bytes_in size) bytes)
    else Some (fault offset)

-- every field is whole and allowed; bytes may follow the last
abbrev pub AreRead : Format → List ℕ → Type 0
AreRead format bytes = (first_fault format 0 bytes ≡ None) ⊎ (first_fault format 0 bytes ≡ Some Trailing)
