-- Numbers as packets have them.
use Rattle.std.specs.Prelude.{ℕ, ◌&&◌, ◌^◌, List, length, Option, Some, None, nat_lt, if◌then◌else◌}
use Rattle.std.specs.Str.Parse.{digits_value}
use Rattle.om_text.specs.Numbers.{are_digits, below}

-- a number of 32 bits: one hexadecimal digit or more, in either case, with any number of leading zeros
abbrev pub hex_number : List ℕ → Option ℕ
hex_number word = if nat_lt 0 (length word) && are_digits 16 word then below (2 ^ 32) (Some (digits_value 16 word)) else None
