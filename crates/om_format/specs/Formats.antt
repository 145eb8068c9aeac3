-- The format of a record: its fields from the left.
use Rattle.std.specs.Prelude.{ℕ, ◌*◌, ◌^◌, List, slice_index, Bool, true, nat_le}
use Rattle.std.specs.Int.{Width, w8, w16, w32, w64}
use Rattle.om_format.specs.declared.limits.TheConstants.{MAX_BODY}
use Rattle.om_format.specs.declared.error.DecodeError.{DecodeError}
use Rattle.om_format.specs.declared.error.DecodeError.TheVariants.{Kind, Version, Field}

-- how many bytes a number has
pub data Size : Type 0 where
  one : Size
  two : Size
  four : Size
  eight : Size

-- how many bytes a number of a size has
abbrev pub bytes_in : Size → ℕ
bytes_in one = 1
bytes_in two = 2
bytes_in four = 4
bytes_in eight = 8

-- the unsigned type of numbers of that size
abbrev pub width : Size → Width
width one = w8
width two = w16
width four = w32
width eight = w64

-- numbers of that size are below this
abbrev pub limit : Size → ℕ
limit size = 2 ^ (8 * bytes_in size)

-- The fields that are still to come. A field is so many numbers of one size. Which values are allowed, and which fields
-- come behind it, may depend on the values before. A forbidden value is a fault that tells the offset of its field.
pub data Format : Type 0 where
  end : Format
  field : (size : Size) (count : ℕ) (allowed : List ℕ → Bool) (fault : ℕ → DecodeError) (behind : List ℕ → Format) → Format

-- any value is allowed
abbrev pub any : {A : Type 0} → A → Bool
any value = true

-- a field of one number, with its own fault
abbrev pub number_or : (ℕ → DecodeError) → Size → (ℕ → Bool) → (ℕ → Format) → Format
number_or fault size allowed behind = field size 1 (λ values. allowed (slice_index values 0)) fault (λ values. behind (slice_index values 0))

-- a field of one number
abbrev pub number : Size → (ℕ → Bool) → (ℕ → Format) → Format
number size allowed behind = number_or Field size allowed behind

-- a field of so many bytes, which may be any
abbrev pub bytes : ℕ → Format → Format
bytes count behind = field one count any Field (λ _. behind)

-- a field of a length, and one of so many bytes
unfoldable pub counted : Size → (ℕ → Bool) → Format → Format
counted size allowed behind = number size allowed λ len. bytes len behind

-- lengths of a body
abbrev pub is_body_size : ℕ → Bool
is_body_size len = nat_le len MAX_BODY

-- a body: its length, and its bytes
abbrev pub body : Format → Format
body behind = counted two is_body_size behind

-- a field of a kind, and one of a version, on which the fields behind may depend
unfoldable pub opening : (ℕ → Bool) → (ℕ → Bool) → (ℕ → Format) → Format
opening is_kind is_version behind =
    number_or (λ _. Kind) one is_kind λ _.
    number_or (λ _. Version) one is_version behind
