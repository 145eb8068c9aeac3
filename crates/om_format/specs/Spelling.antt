-- What bytes spell, in a format: the fields one after the other, each within its bytes and allowed.
use Rattle.std.specs.Prelude.{◌≡◌, ℕ, ◌<◌, List, [], ◌∷◌, ◌++◌, length, Bool, true}
use Rattle.std.specs.List.{flat_map, AllByRecursion}
use Rattle.std.specs.Int.{to_le_bytes}
use Rattle.om_format.specs.Formats.{Size, width, limit, Format, end, field}

-- numbers, one after the other, the lowest byte of each first
abbrev pub numbers : Size → List ℕ → List ℕ
numbers size values = flat_map (to_le_bytes (width size)) values

-- a field's values: as many as it has, each within its bytes, and allowed
pub record IsField (size : Size) (count : ℕ) (is_allowed : List ℕ → Bool) (values : List ℕ) : Type 0 where
  pub whole : length values ≡ count
  pub within : AllByRecursion (λ value. value < limit size) values
  pub allowed : is_allowed values ≡ true

-- these are the values of the format's fields, from the left, and this is their spelling
abbrev pub Spells : Format → List (List ℕ) → List ℕ → Type 0
Spells end [] bytes = bytes ≡ []
Spells end (values ∷ rest) bytes = ⊥
Spells (field size count allowed fault behind) [] bytes = ⊥
Spells (field size count allowed fault behind) (values ∷ rest) bytes =
    IsField size count allowed values × (after : List ℕ) × (bytes ≡ numbers size values ++ after) × Spells (behind values) rest after
