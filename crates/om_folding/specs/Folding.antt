-- A text whose rows of zeros are folded, as dumps of memory have it.
use Rattle.std.specs.Prelude.{ℕ, ◌+◌, ◌-◌, Bool, ◌&&◌, ◌||◌, List, [], ◌∷◌, ◌++◌, length, take, drop, codes, slice_index, slice_index_or, if◌then◌else◌, ◌==◌, nat_le, nat_lt}
use Rattle.std.specs.List.{flat_map, list_all, range_with_len, slice_split}
use Rattle.om_folding.specs.declared.rows.TheConstants.{ADDRESS_DIGITS}

-- a digit or a letter from a to f
abbrev pub is_address_digit : ℕ → Bool
is_address_digit byte = (nat_le 48 byte && nat_le byte 57) || (nat_le 97 byte && nat_le byte 102)

-- an address, a space, and zeros alone
abbrev pub is_zero_row : List ℕ → Bool
is_zero_row line =
    nat_lt (ADDRESS_DIGITS + 1) (length line)
    && ((slice_index line ADDRESS_DIGITS == 32)
    && (list_all is_address_digit (take ADDRESS_DIGITS line)
    && list_all (λ byte. byte == 48) (drop (ADDRESS_DIGITS + 1) line)))

abbrev pub is_zero_at : List (List ℕ) → ℕ → Bool
is_zero_at lines k = is_zero_row (slice_index_or lines k [])

-- a row of zeros behind another
abbrev pub repeats : List (List ℕ) → ℕ → Bool
repeats lines k = nat_lt 0 k && (is_zero_at lines k && is_zero_at lines (k - 1))

-- a row of zeros behind two others
abbrev pub repeats_on : List (List ℕ) → ℕ → Bool
repeats_on lines k = repeats lines k && repeats lines (k - 1)

-- What stands for a line: of rows of zeros that follow one another the first stays, and a line `*` stands for the others
abbrev pub folded_line : List (List ℕ) → ℕ → List ℕ
folded_line lines k =
    if repeats_on lines k then []
    else (if repeats lines k then codes "*\n"
    else slice_index_or lines k [] ++ 10 ∷ [])

-- the text, of what stands between its ends of lines; behind the last one nothing is a row
abbrev pub folded_parts : List (List ℕ) → List ℕ
folded_parts parts =
    flat_map (folded_line parts) (range_with_len 0 (length parts - 1)) ++ slice_index_or parts (length parts - 1) []

abbrev pub folded : List ℕ → List ℕ
folded text = folded_parts (slice_split (λ byte. byte == 10) text)
