-- Packets of gdb's remote protocol, as they are written.
use Rattle.std.specs.Prelude.{ℕ, Bool, List, [], ◌∷◌, ◌++◌, ◌+◌, ◌/◌, ◌%◌, ◌||◌, ◌==◌, if◌then◌else◌, nat_lt, sum}
use Rattle.std.specs.Int.Bits.{bit_xor}
use Rattle.std.specs.List.{flat_map}

-- a packet may not hold the byte as it is: # $ * }
abbrev pub is_special : ℕ → Bool
is_special byte = (byte == 35) || (byte == 36) || (byte == 42) || (byte == 125)

-- a byte as it is written: special, behind } and with its bit 5 turned
abbrev pub escaped_byte : ℕ → List ℕ
escaped_byte byte = if is_special byte then 125 ∷ bit_xor byte 32 ∷ [] else byte ∷ []

-- bytes as they are written
abbrev pub escaped : List ℕ → List ℕ
escaped bytes = flat_map escaped_byte bytes

-- the sum of bytes, modulo 256
abbrev pub checksum : List ℕ → ℕ
checksum text = sum text % 256

-- a hexadecimal digit, in lower case
abbrev pub hex_digit : ℕ → ℕ
hex_digit value = if nat_lt value 10 then 48 + value else 87 + value

-- $, the bytes as they are written, #, and the sum of what stands between
abbrev pub packet_text : List ℕ → List ℕ
packet_text bytes = 36 ∷ escaped bytes
    ++ 35 ∷ hex_digit (checksum (escaped bytes) / 16) ∷ hex_digit (checksum (escaped bytes) % 16) ∷ []
