-- Texts that are read back.
use Rattle.std.proofs.Common.{◌≡◌, ◌≢◌, ◌≤◌, ◌<◌, ℕ, ◌+◌, ◌/◌, ◌%◌, Bool, true, false, List, [], ◌∷◌, ◌++◌, length, refl, ap, sym, ◌∙◌, subst, ◌⊎◌, inl, inr, append_assoc, append-nil, arith}
use Rattle.std.specs.Prelude.{None, Some, sum, map, All, if◌then◌else◌}
use Rattle.std.proofs.lemmas.List.Elements.{All-head, All-tail}
use Rattle.std.proofs.lemmas.Grind.{common_steps}
use Rattle.std.specs.Int.Bits.{bit_xor}
use Rattle.om_packets.specs.declared.decoder.Event.{Event}
use Rattle.om_packets.specs.declared.decoder.Event.TheVariants.{Packet}
use Rattle.om_packets.specs.declared.decoder.DecoderState.TheVariants as places
use Rattle.om_packets.specs.declared.decoder.TheConstants.{MAX_PACKET}
use Rattle.om_packets.specs.Packets.{checksum, escaped, escaped_byte, hex_digit, is_special, packet_text}
use Rattle.om_packets.specs.Decoding.{Decoding, begin, first_digit, second_digit, hex_value, kept, start, step}
use Rattle.om_packets.specs.Reading.{ReadsBack, AreBetween, CanBeSent, Sent, behind, reading, sent_text, told}

-- A text leads from one place to another, and tells this.
pub record Leads (d : Decoding) (text : List ℕ) (events : List (Event × List ℕ)) (next : Decoding) : Type 0 where
  pub reads : (rest : List ℕ) → reading d (text ++ rest) ≡ events ++ reading next rest
  pub ends : (rest : List ℕ) → behind d (text ++ rest) ≡ behind next rest

pub leads_nowhere : (d : Decoding) → Leads d [] [] d
leads_nowhere d = record { reads = λ rest. refl; ends = λ rest. refl }

pub leads_by_step : (d : Decoding) (byte : ℕ) (next : Decoding) → step d byte ≡ (next, None) → Leads d (byte ∷ []) [] next
leads_by_step d byte next is = record {
  reads = λ rest. ap (λ s. told s ++ reading s.0 rest) is;
  ends = λ rest. ap (λ s. behind s.0 rest) is;
}

pub leads_by_event : (d : Decoding) (byte : ℕ) (next : Decoding) (event : Event) → step d byte ≡ (next, Some event)
    → Leads d (byte ∷ []) ((event, next.body) ∷ []) next
leads_by_event d byte next event is = record {
  reads = λ rest. ap (λ s. told s ++ reading s.0 rest) is;
  ends = λ rest. ap (λ s. behind s.0 rest) is;
}

pub leads_on : {d mid next : Decoding} {text more : List ℕ} {events others : List (Event × List ℕ)}
    → Leads d text events mid → Leads mid more others next → Leads d (text ++ more) (events ++ others) next
leads_on {d} {mid} {next} {text} {more} {events} {others} one two = record {
  reads = λ rest. ap (reading d) (append_assoc text more rest) ∙ one.reads (more ++ rest) ∙ ap (λ l. events ++ l) (two.reads rest)
      ∙ sym (append_assoc events others (reading next rest));
  ends = λ rest. ap (behind d) (append_assoc text more rest) ∙ one.ends (more ++ rest) ∙ two.ends rest;
}

-- places, by their bytes and the sum
abbrev pub out : List ℕ → ℕ → Decoding
out body total = record { place = places.Outside; body = body; total = total }

abbrev pub «in» : List ℕ → ℕ → Decoding
«in» body total = record { place = places.Body; body = body; total = total }

step_between : (byte : ℕ) (body : List ℕ) (total : ℕ) → byte ≢ 3 → byte ≢ 36 → step (out body total) byte ≡ (out body total, None)
step_between byte body total no3 no36 = grind arith

pub leads_between : (bytes : List ℕ) (body : List ℕ) (total : ℕ) → AreBetween bytes → Leads (out body total) bytes [] (out body total)
leads_between [] body total between = leads_nowhere (out body total)
leads_between (byte ∷ bytes) body total between =
    leads_on (leads_by_step (out body total) byte (out body total) (step_between byte body total (All-head (λ b. (b ≢ 3) × (b ≢ 36)) byte bytes between).0 (All-head (λ b. (b ≢ 3) × (b ≢ 36)) byte bytes between).1))
    (leads_between bytes body total (All-tail (λ b. (b ≢ 3) × (b ≢ 36)) byte bytes between))

step_plain : (byte : ℕ) (body : List ℕ) (total : ℕ) → is_special byte ≡ false → length body ≤ MAX_PACKET
    → step («in» body total) byte ≡ («in» (body ++ byte ∷ []) ((total + byte) % 256), None)
step_plain byte body total plain room = grind arith

step_escape : (body : List ℕ) (total : ℕ) → step («in» body total) 125 ≡ (record { place = places.Escaped; body = body; total = (total + 125) % 256 }, None)
step_escape body total = refl

is_one_of : (byte : ℕ) → is_special byte ≡ true → (byte ≡ 35) ⊎ (byte ≡ 36) ⊎ (byte ≡ 42) ⊎ (byte ≡ 125)
is_one_of byte special = grind arith

turned_twice : (byte : ℕ) → is_special byte ≡ true → bit_xor (bit_xor byte 32) 32 ≡ byte
turned_twice byte special = elim (is_one_of byte special) [
  | inl is ↦ subst (λ b. bit_xor (bit_xor b 32) 32 ≡ b) (sym is) refl
  | inr rest ↦ elim rest [
    | inl is ↦ subst (λ b. bit_xor (bit_xor b 32) 32 ≡ b) (sym is) refl
    | inr rest ↦ elim rest [
      | inl is ↦ subst (λ b. bit_xor (bit_xor b 32) 32 ≡ b) (sym is) refl
      | inr is ↦ subst (λ b. bit_xor (bit_xor b 32) 32 ≡ b) (sym is) refl
    ]
  ]
]

kept_within : (byte : ℕ) (body : List ℕ) → length body ≤ MAX_PACKET → kept body byte ≡ body ++ byte ∷ []
kept_within byte body room = grind arith

one_more : (total byte : ℕ) → (total + byte) % 256 ≡ (total + sum (byte ∷ [])) % 256
one_more total byte = ap (λ b. (total + b) % 256) (omega arith)

two_more : (total byte : ℕ) → ((total + 125) % 256 + byte) % 256 ≡ (total + sum (125 ∷ byte ∷ [])) % 256
two_more total byte = omega arith

none_more : (total : ℕ) → total < 256 → total ≡ (total + 0) % 256
none_more total small = omega arith

both_more : (total : ℕ) (one more : List ℕ) → ((total + sum one) % 256 + sum more) % 256 ≡ (total + sum (one ++ more)) % 256
both_more total one more = grind (arith, common_steps)

below_256 : (total : ℕ) → total % 256 < 256
below_256 total = omega arith

within_first : (body : List ℕ) (byte : ℕ) (bytes : List ℕ) → length body + length (byte ∷ bytes) ≤ MAX_PACKET → length body ≤ MAX_PACKET
within_first body byte bytes room = grind arith

within_rest : (body : List ℕ) (byte : ℕ) (bytes : List ℕ) → length body + length (byte ∷ bytes) ≤ MAX_PACKET
    → length (body ++ byte ∷ []) + length bytes ≤ MAX_PACKET
within_rest body byte bytes room = grind (arith, common_steps)

step_turned : (byte : ℕ) (body : List ℕ) (total : ℕ) → is_special byte ≡ true → length body ≤ MAX_PACKET
    → step (record { place = places.Escaped; body = body; total = total }) (bit_xor byte 32)
    ≡ («in» (body ++ byte ∷ []) ((total + bit_xor byte 32) % 256), None)
step_turned byte body total special room =
    ap (λ b. (record { place = places.Body; body = kept body b; total = (total + bit_xor byte 32) % 256 }, None)) (turned_twice byte special)
    ∙ ap (λ bytes. («in» bytes ((total + bit_xor byte 32) % 256), None)) (kept_within byte body room)

through : (special : Bool) (byte : ℕ) (body : List ℕ) (total : ℕ) → is_special byte ≡ special → length body ≤ MAX_PACKET
    → Leads («in» body total) (if special then 125 ∷ bit_xor byte 32 ∷ [] else byte ∷ []) []
    («in» (body ++ byte ∷ []) ((total + sum (if special then 125 ∷ bit_xor byte 32 ∷ [] else byte ∷ [])) % 256))
through true byte body total is room =
    subst (λ t. Leads («in» body total) (125 ∷ bit_xor byte 32 ∷ []) [] («in» (body ++ byte ∷ []) t)) (two_more total (bit_xor byte 32))
    (leads_on (leads_by_step («in» body total) 125 (record { place = places.Escaped; body = body; total = (total + 125) % 256 }) (step_escape body total))
    (leads_by_step (record { place = places.Escaped; body = body; total = (total + 125) % 256 }) (bit_xor byte 32)
    («in» (body ++ byte ∷ []) (((total + 125) % 256 + bit_xor byte 32) % 256)) (step_turned byte body ((total + 125) % 256) is room)))
through false byte body total is room =
    subst (λ t. Leads («in» body total) (byte ∷ []) [] («in» (body ++ byte ∷ []) t)) (one_more total byte)
    (leads_by_step («in» body total) byte («in» (body ++ byte ∷ []) ((total + byte) % 256)) (step_plain byte body total is room))

pub leads_through_byte : (byte : ℕ) (body : List ℕ) (total : ℕ) → length body ≤ MAX_PACKET
    → Leads («in» body total) (escaped_byte byte) [] («in» (body ++ byte ∷ []) ((total + sum (escaped_byte byte)) % 256))
leads_through_byte byte body total room = through (is_special byte) byte body total refl room

pub leads_through : (bytes body : List ℕ) (total : ℕ) → total < 256 → length body + length bytes ≤ MAX_PACKET
    → Leads («in» body total) (escaped bytes) [] («in» (body ++ bytes) ((total + sum (escaped bytes)) % 256))
leads_through [] body total small room =
    subst (λ d. Leads («in» body total) [] [] d)
    (ap (λ b. «in» b total) (sym (append-nil body)) ∙ ap (λ t. «in» (body ++ []) t) (none_more total small))
    (leads_nowhere («in» body total))
leads_through (byte ∷ bytes) body total small room =
    let mid : ℕ = (total + sum (escaped_byte byte)) % 256 in
    subst (λ d. Leads («in» body total) (escaped_byte byte ++ escaped bytes) [] d)
    (ap (λ b. «in» b ((mid + sum (escaped bytes)) % 256)) (append_assoc body (byte ∷ []) bytes)
    ∙ ap (λ t. «in» (body ++ byte ∷ bytes) t) (both_more total (escaped_byte byte) (escaped bytes)))
    (leads_on (leads_through_byte byte body total (within_first body byte bytes room))
    (leads_through bytes (body ++ byte ∷ []) mid (below_256 (total + sum (escaped_byte byte))) (within_rest body byte bytes room)))

value_of_digit : (value : ℕ) → value < 16 → hex_value (hex_digit value) ≡ Some value
value_of_digit value small = grind arith

below_16 : (total : ℕ) → total % 16 < 16
below_16 total = omega arith

high_below_16 : (total : ℕ) → total < 256 → total / 16 < 16
high_below_16 total small = omega arith

step_first_digit : (value : ℕ) (body : List ℕ) (total : ℕ) → value < 16
    → step (record { place = places.FirstDigit; body = body; total = total }) (hex_digit value)
    ≡ (record { place = places.SecondDigit value; body = body; total = total }, None)
step_first_digit value body total small =
    ap (first_digit (record { place = places.FirstDigit; body = body; total = total })) (value_of_digit value small)

is_packet : (body : List ℕ) (total : ℕ) → length body ≤ MAX_PACKET
    → second_digit (total / 16) (record { place = places.SecondDigit (total / 16); body = body; total = total }) (Some (total % 16)) ≡ Packet
is_packet body total room = grind arith

step_second_digit : (body : List ℕ) (total : ℕ) → length body ≤ MAX_PACKET
    → step (record { place = places.SecondDigit (total / 16); body = body; total = total }) (hex_digit (total % 16))
    ≡ (out body total, Some Packet)
step_second_digit body total room =
    ap (λ v. (out body total, Some (second_digit (total / 16) (record { place = places.SecondDigit (total / 16); body = body; total = total }) v)))
    (value_of_digit (total % 16) (below_16 total))
    ∙ ap (λ event. (out body total, Some event)) (is_packet body total room)

pub leads_to_end : (body : List ℕ) (total : ℕ) → length body ≤ MAX_PACKET → total < 256
    → Leads («in» body total) (35 ∷ hex_digit (total / 16) ∷ hex_digit (total % 16) ∷ []) ((Packet, body) ∷ []) (out body total)
leads_to_end body total room small =
    leads_on (leads_by_step («in» body total) 35 (record { place = places.FirstDigit; body = body; total = total }) refl)
    (leads_on (leads_by_step (record { place = places.FirstDigit; body = body; total = total }) (hex_digit (total / 16))
    (record { place = places.SecondDigit (total / 16); body = body; total = total }) (step_first_digit (total / 16) body total (high_below_16 total small)))
    (leads_by_event (record { place = places.SecondDigit (total / 16); body = body; total = total }) (hex_digit (total % 16)) (out body total) Packet
    (step_second_digit body total room)))

from_none : (bytes : List ℕ) → length bytes ≤ MAX_PACKET → length {A = ℕ} [] + length bytes ≤ MAX_PACKET
from_none bytes room = grind arith

from_zero : (text : List ℕ) → (0 + sum text) % 256 ≡ checksum text
from_zero text = ap (λ n. n % 256) (omega arith)

-- a packet from between packets
pub leads_packet : (bytes body : List ℕ) (total : ℕ) → length bytes ≤ MAX_PACKET
    → Leads (out body total) (packet_text bytes) ((Packet, bytes) ∷ []) (out bytes (checksum (escaped bytes)))
leads_packet bytes body total room =
    leads_on (leads_by_step (out body total) 36 begin refl)
    (leads_on (subst (λ t. Leads begin (escaped bytes) [] («in» bytes t)) (from_zero (escaped bytes)) (leads_through bytes [] 0 (omega arith) (from_none bytes room)))
    (leads_to_end bytes (checksum (escaped bytes)) room (below_256 (sum (escaped bytes)))))

-- the place behind all of them
pub record ReadsAll (body : List ℕ) (total : ℕ) (all : List Sent) : Type 0 where
  pub last : List ℕ
  pub sum_of_last : ℕ
  pub leads : Leads (out body total) (sent_text all) (map (λ s. (Packet, s.bytes)) all) (out last sum_of_last)

pub reads_all : (all : List Sent) (body : List ℕ) (total : ℕ) → All CanBeSent all → ReadsAll body total all
reads_all [] body total can = record { last = body; sum_of_last = total; leads = leads_nowhere (out body total) }
reads_all (s ∷ all) body total can =
    let next = reads_all all s.bytes (checksum (escaped s.bytes)) (All-tail CanBeSent s all can) in
    record {
      last = next.last;
      sum_of_last = next.sum_of_last;
      leads = leads_on (leads_on (leads_between s.before body total (All-head CanBeSent s all can).0) (leads_packet s.bytes body total (All-head CanBeSent s all can).1)) next.leads;
    }

pub reads_back : ReadsBack
reads_back all can =
    let r = reads_all all [] 0 can in (
      ap (reading start) (sym (append-nil (sent_text all))) ∙ r.leads.reads [] ∙ append-nil (map (λ s. (Packet, s.bytes)) all),
      ap (λ d. d.place) (ap (behind start) (sym (append-nil (sent_text all))) ∙ r.leads.ends []),
    )
