-- What whole texts are read as.
use Rattle.std.specs.Prelude.{◌≡◌, ◌≢◌, ◌≤◌, ℕ, List, [], ◌∷◌, ◌++◌, Option, None, Some, All, map, length}
use Rattle.std.specs.List.{flat_map}
use Rattle.om_packets.specs.declared.decoder.Event.{Event}
use Rattle.om_packets.specs.declared.decoder.Event.TheVariants.{Packet}
use Rattle.om_packets.specs.declared.decoder.DecoderState.TheVariants.{Outside}
use Rattle.om_packets.specs.declared.decoder.TheConstants.{MAX_PACKET}
use Rattle.om_packets.specs.Packets.{packet_text}
use Rattle.om_packets.specs.Decoding.{Decoding, step, start}

-- an event, and the bytes of the packet at that moment
abbrev pub told : Decoding × Option Event → List (Event × List ℕ)
told (d, None) = []
told (d, Some event) = (event, d.body) ∷ []

-- all that the bytes complete, in order
abbrev pub reading : Decoding → List ℕ → List (Event × List ℕ)
reading d [] = []
reading d (byte ∷ bytes) = told (step d byte) ++ reading (step d byte).0 bytes

-- where the decoding stands behind bytes
abbrev pub behind : Decoding → List ℕ → Decoding
behind d [] = d
behind d (byte ∷ bytes) = behind (step d byte).0 bytes

-- what may stand between packets: any bytes but 3 and $
abbrev pub AreBetween : List ℕ → Type 0
AreBetween bytes = All (λ byte. (byte ≢ 3) × (byte ≢ 36)) bytes

-- the bytes of a packet, and what stands before it
pub record Sent : Type 0 where
  pub before : List ℕ
  pub bytes : List ℕ

abbrev pub CanBeSent : Sent → Type 0
CanBeSent s = AreBetween s.before × (length s.bytes ≤ MAX_PACKET)

abbrev pub sent_text : List Sent → List ℕ
sent_text all = flat_map (λ s. s.before ++ packet_text s.bytes) all

-- packets are read back as they were written, and nothing else is told
abbrev pub ReadsBack : Type 0
ReadsBack = (all : List Sent) → All CanBeSent all
    → (reading start (sent_text all) ≡ map (λ s. (Packet, s.bytes)) all) × ((behind start (sent_text all)).place ≡ Outside)
