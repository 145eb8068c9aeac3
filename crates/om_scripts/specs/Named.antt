-- Names, and values by name.
use Rattle.std.specs.Prelude.{ℕ, Bool, ◌&&◌, ◌||◌, List, map, length, Option, position, nat_lt, nat_le, ◌==◌}
use Rattle.std.specs.Char.{is_ascii_alphanumeric}
use Rattle.std.specs.List.{list_all}
use Rattle.std.specs.Str.{bytes_eq}
use Rattle.om_scripts.specs.declared.names.TheConstants.{MAX_NAME}

-- a letter, a digit or `_`
abbrev pub is_name_byte : ℕ → Bool
is_name_byte b = is_ascii_alphanumeric b || (b == 95)

-- a word of one byte or more, all of which a name may have, and not too many
abbrev pub is_name : List ℕ → Bool
is_name word = nat_lt 0 (length word) && nat_le (length word) MAX_NAME && list_all is_name_byte word

-- the place of a name
abbrev pub place_of : {V : Type 0} → List ℕ → List (List ℕ × V) → Option ℕ
place_of name named = position (λ other. bytes_eq name other) (map (λ e. e.0) named)
