-- Packets in, packets out.
use Rattle.std.specs.Prelude.{◌≡◌, ℕ, Bool, true, false, not, ◌&&◌, List, [], ◌∷◌, ◌++◌, Option, None, Some, Result, Ok, Err, IfOk, OnErr, MatchBool, codes, if◌then◌else◌}
use Rattle.std.specs.Str.{bytes_eq}
use Rattle.om_packets.specs.Decoding.{Decoding, start, step}
use Rattle.om_packets.specs.Packets.{packet_text}
use Rattle.om_packets.specs.declared.decoder.Event.{Event}
use Rattle.om_packets.specs.declared.decoder.Event.TheVariants.{Packet, Garbled, Interrupt}
use Rattle.om_requests.specs.Requests.{request_of}
use Rattle.om_timeline.specs.declared.fault.PlayFault.{PlayFault}
use Rattle.om_timeline.specs.declared.fault.PlayFault.TheVariants.{Memory, TooLong}
use Rattle.om_debug.specs.declared.debugger.Reply.{Reply}
use Rattle.om_requests.specs.Groups.{group_request_of}
use Rattle.om_debug.specs.declared.stop.Stop.TheVariants.{Paused}
use Rattle.om_debug.specs.Stops.{DebugState, IsMoved, stop_text, with_timeline}
use Rattle.om_debug.specs.Answered.{IsAnswered}
use Rattle.om_debug.specs.Told.{is_last, text_of}
use Rattle.om_inferiors.specs.declared.inferiors.Inferiors.{Inferiors}
use Rattle.om_inferiors.specs.declared.shown.Shown.{Shown}
use Rattle.om_inferiors.specs.declared.shown.Shown.TheVariants.{One, All}
use Rattle.om_inferiors.specs.Told.{IsGroupAnswered, group_stop_text}

-- one who asks: what is shown, how far a packet was read, and whether packets are acknowledged
pub record SessionState : Type 0 where
  pub shown : Shown
  pub decoding : Decoding
  pub acks : Bool

-- a session before its first byte
abbrev pub session : Shown → SessionState
session shown = record { shown = shown; decoding = start; acks = true }

-- E0c is told where memory ran out, and E01 where the record is not played on
abbrev pub outcome_text : Result Reply PlayFault → List ℕ
outcome_text (Ok told) = text_of told
outcome_text (Err Memory) = codes "E0c"
outcome_text (Err TooLong) = codes "E01"

abbrev pub is_over : Result Reply PlayFault → Bool
is_over (Ok told) = is_last told
is_over (Err fault) = false

-- what became of a packet about one process, and what it leaves
pub record IsOutcome (packet : List ℕ) (old : DebugState) (outcome : Result Reply PlayFault) (new : DebugState) : Type 0 where
  pub answered : IfOk outcome (λ told. IsAnswered (request_of packet) old told new)
  pub moved : IsMoved old.timeline new.timeline
  pub refused : OnErr outcome (new ≡ with_timeline old new.timeline)

-- what became of a packet about all processes, and what it leaves
pub record IsGroupOutcome (packet : List ℕ) (old : Inferiors) (outcome : Result Reply PlayFault) (new : Inferiors) : Type 0 where
  pub answered : IfOk outcome (λ told. IsGroupAnswered (group_request_of packet) old told new)

-- one process is shown all the time, or all are
abbrev pub IsShownOutcome : List ℕ → Shown → Result Reply PlayFault → Shown → Type 0
IsShownOutcome packet (One old) outcome (One new) = IsOutcome packet old outcome new
IsShownOutcome packet (All old) outcome (All new) = IsGroupOutcome packet old outcome new
IsShownOutcome packet old outcome new = ⊥

-- what one is told who wishes a stop
abbrev pub pause_text : Shown → List ℕ
pause_text (One d) = stop_text Paused
pause_text (All d) = group_stop_text d.focus Paused

-- what is written where packets are acknowledged
abbrev pub if_acked : Bool → List ℕ → List ℕ
if_acked acks text = if acks then text else []

-- a packet is answered, and from the one on that asks for it no more is acknowledged
pub record IsPacketTaken (old : SessionState) (d : Decoding) (written : List ℕ) (over : Bool) (new : SessionState) : Type 0 where
  pub outcome : Result Reply PlayFault
  pub is_outcome : IsShownOutcome d.body old.shown outcome new.shown
  pub text : written ≡ if_acked old.acks (codes "+") ++ packet_text (outcome_text outcome)
  pub last : over ≡ is_over outcome
  pub decoding : new.decoding ≡ d
  pub acks : new.acks ≡ (old.acks && not (bytes_eq d.body (codes "QStartNoAckMode")))

-- what a byte completes is answered
abbrev pub IsTaken : SessionState → Decoding → Option Event → List ℕ → Bool → SessionState → Type 0
IsTaken old d None written over new = (written ≡ []) × (over ≡ false) × (new ≡ record old { decoding = d })
IsTaken old d (Some Packet) written over new = IsPacketTaken old d written over new
IsTaken old d (Some Garbled) written over new =
    (written ≡ if_acked old.acks (codes "-")) × (over ≡ false) × (new ≡ record old { decoding = d })
IsTaken old d (Some Interrupt) written over new =
    (written ≡ packet_text (pause_text old.shown)) × (over ≡ false) × (new ≡ record old { decoding = d })

-- one byte is taken
abbrev pub TakesByte : SessionState → ℕ → List ℕ → Bool → SessionState → Type 0
TakesByte old byte written over new = IsTaken old (step old.decoding byte).0 (step old.decoding byte).1 written over new

-- bytes are taken one after another, and this is written: it is over with the last answer, and no byte behind it is taken
abbrev pub Takes : SessionState → List ℕ → List ℕ → Bool → SessionState → Type 0
Takes old [] written over new = (written ≡ []) × (over ≡ false) × (new ≡ old)
Takes old (byte ∷ bytes) written over new =
    (first : List ℕ) × (last : Bool) × (mid : SessionState) × TakesByte old byte first last mid
    × MatchBool last ((written ≡ first) × (over ≡ true) × (new ≡ mid)) ((rest : List ℕ) × (written ≡ first ++ rest) × Takes mid bytes rest over new)
