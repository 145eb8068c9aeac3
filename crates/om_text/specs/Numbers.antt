-- What a word stands for as a number.
use Rattle.std.specs.Prelude.{ℕ, Bool, ◌&&◌, ◌^◌, List, length, Option, option_and_then, Some, None, nat_lt, if◌then◌else◌, ◌==◌}
use Rattle.std.specs.Char.{is_digit}
use Rattle.std.specs.List.{list_all}
use Rattle.std.specs.Str.Parse.{digits_value}

-- each byte is a digit in the radix, a letter in either case
abbrev pub are_digits : ℕ → List ℕ → Bool
are_digits radix word = list_all (λ byte. is_digit byte radix) word

-- the number without bound that a word of decimal digits writes: one digit or more, and nothing else
abbrev pub decimal_number : List ℕ → Option ℕ
decimal_number word = if nat_lt 0 (length word) && are_digits 10 word then Some (digits_value 10 word) else None

-- the number, where it is below the limit
abbrev pub below : ℕ → Option ℕ → Option ℕ
below limit = option_and_then (λ number. if nat_lt number limit then Some number else None)

-- a number of 64 bits
abbrev pub long_number_of : List ℕ → Option ℕ
long_number_of word = below (2 ^ 64) (decimal_number word)

-- a number of 32 bits
abbrev pub number_of : List ℕ → Option ℕ
number_of word = below (2 ^ 32) (decimal_number word)

-- a word of the machine: eight hexadecimal digits
abbrev pub hex_word : List ℕ → Option ℕ
hex_word word = if (length word == 8) && are_digits 16 word then Some (digits_value 16 word) else None
