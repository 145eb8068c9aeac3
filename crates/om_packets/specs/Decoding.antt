-- What a byte completes, after the bytes before it.
use Rattle.std.specs.Prelude.{ℕ, List, [], ◌∷◌, ◌++◌, ◌+◌, ◌*◌, ◌-◌, ◌%◌, ◌&&◌, ◌==◌, if◌then◌else◌, nat_le, length, Option, None, Some}
use Rattle.std.specs.Int.Bits.{bit_xor}
use Rattle.om_packets.specs.declared.decoder.DecoderState.{DecoderState}
use Rattle.om_packets.specs.declared.decoder.DecoderState.TheVariants as places
use Rattle.om_packets.specs.declared.decoder.Event.{Event}
use Rattle.om_packets.specs.declared.decoder.Event.TheVariants.{Packet, Garbled, Interrupt}
use Rattle.om_packets.specs.declared.decoder.TheConstants.{MAX_PACKET}

-- where the next byte stands, the bytes of the packet so far, and the sum of how they were written
pub record Decoding : Type 0 where
  pub place : DecoderState
  pub body : List ℕ
  pub total : ℕ

-- a decoding between packets, before any
abbrev pub start : Decoding
start = record { place = places.Outside; body = []; total = 0 }

-- right behind $
abbrev pub begin : Decoding
begin = record { place = places.Body; body = []; total = 0 }

-- a decoding between packets again
abbrev pub outside : Decoding → Decoding
outside d = record d { place = places.Outside }

-- the bytes with one more, of which there is at most one beyond those that a packet may hold
abbrev pub kept : List ℕ → ℕ → List ℕ
kept body byte = if nat_le (length body) MAX_PACKET then body ++ byte ∷ [] else body

-- a decoding with one byte more of the packet
abbrev pub with_byte : Decoding → ℕ → Decoding
with_byte d byte = record d { body = kept d.body byte }

-- the value of a hexadecimal digit, in either case
abbrev pub hex_value : ℕ → Option ℕ
hex_value byte =
    if nat_le 48 byte && nat_le byte 57 then Some (byte - 48)
    else if nat_le 65 byte && nat_le byte 70 then Some (byte - 55)
    else if nat_le 97 byte && nat_le byte 102 then Some (byte - 87)
    else None

-- a byte between packets
abbrev pub step_outside : Decoding → ℕ → Decoding × Option Event
step_outside d byte =
    if byte == 3 then (d, Some Interrupt) else if byte == 36 then (begin, None) else (d, None)

-- a byte in a packet
abbrev pub step_body : Decoding → ℕ → Decoding × Option Event
step_body d byte =
    if byte == 36 then (begin, None)
    else if byte == 35 then (record d { place = places.FirstDigit }, None)
    else if byte == 125 then (record d { place = places.Escaped; total = (d.total + byte) % 256 }, None)
    else (record { place = places.Body; body = kept d.body byte; total = (d.total + byte) % 256 }, None)

-- a byte behind }
abbrev pub step_escaped : Decoding → ℕ → Decoding × Option Event
step_escaped d byte =
    (record { place = places.Body; body = kept d.body (bit_xor byte 32); total = (d.total + byte) % 256 }, None)

-- the step over the first digit of the sum, behind #
abbrev pub first_digit : Decoding → Option ℕ → Decoding × Option Event
first_digit d None = (outside d, Some Garbled)
first_digit d (Some high) = (record d { place = places.SecondDigit high }, None)

abbrev pub step_first : Decoding → ℕ → Decoding × Option Event
step_first d byte = first_digit d (hex_value byte)

-- what the second digit of the sum ends: a packet, where both are its sum and it is not too long
abbrev pub second_digit : ℕ → Decoding → Option ℕ → Event
second_digit high d None = Garbled
second_digit high d (Some low) =
    if (high * 16 + low == d.total) && nat_le (length d.body) MAX_PACKET then Packet else Garbled

abbrev pub step_second : ℕ → Decoding → ℕ → Decoding × Option Event
step_second high d byte = (outside d, Some (second_digit high d (hex_value byte)))

-- by where the byte stands
abbrev pub step_at : DecoderState → Decoding → ℕ → Decoding × Option Event
step_at places.Outside d byte = step_outside d byte
step_at places.Body d byte = step_body d byte
step_at places.Escaped d byte = step_escaped d byte
step_at places.FirstDigit d byte = step_first d byte
step_at (places.SecondDigit high) d byte = step_second high d byte

abbrev pub step : Decoding → ℕ → Decoding × Option Event
step d byte = step_at d.place d byte
