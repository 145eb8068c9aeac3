-- What packets that only ask are told.
use Rattle.std.specs.Prelude.{ℕ, Bool, true, false, not, ◌&&◌, ◌==◌, List, [], ◌∷◌, ◌++◌, filter, if◌then◌else◌, codes, ◌≡◌}
use Rattle.std.specs.List.{list_any}
use Rattle.om_requests.specs.Answers.{error_text, memory_text, piece_text, registers_text, target_text}
use Rattle.om_requests.specs.declared.request.Request.{Request}
use Rattle.om_requests.specs.declared.request.Request.TheVariants as requests
use Rattle.om_requests.specs.declared.request.Thread.{Thread}
use Rattle.om_requests.specs.declared.request.Thread.TheVariants.{Any, Numbered}
use Rattle.om_requests.specs.declared.request.Watch.{Watch}
use Rattle.om_requests.specs.declared.request.Watched.{Watched}
use Rattle.om_requests.specs.declared.request.Watched.TheVariants.{Writes, Reads, Both}
use Rattle.om_timeline.specs.Timeline.{machine_here}
use Rattle.om_debug.specs.declared.debugger.Reply.{Reply}
use Rattle.om_debug.specs.declared.debugger.Reply.TheVariants.{Text, Last}
use Rattle.om_debug.specs.declared.stop.Stop.TheVariants.{Here}
use Rattle.om_debug.specs.Stops.{DebugState, stop_text}

-- thread 1 is there, and no other
abbrev pub is_there : Thread → Bool
is_there Any = true
is_there (Numbered n) = n == 1

abbrev pub ok_if : Bool → List ℕ
ok_if holds = if holds then codes "OK" else error_text

-- what a packet that only asks is told; all others nothing
abbrev pub asked : DebugState → Request → List ℕ
asked d requests.Supported = codes "PacketSize=4000;QStartNoAckMode+;qXfer:features:read+;qXfer:threads:read+;ReverseStep+;ReverseContinue+;vContSupported+;swbreak+;hwbreak+"
asked d requests.StartNoAckMode = codes "OK"
asked d requests.Why = stop_text Here
asked d requests.Registers = registers_text (machine_here d.timeline)
asked d (requests.Memory address length) = memory_text (machine_here d.timeline) address length
asked d (requests.Select thread) = ok_if (is_there thread)
asked d (requests.SelectGoing thread) = ok_if (is_there thread)
asked d (requests.IsAlive thread) = ok_if (is_there thread)
asked d (requests.Target offset length) = piece_text target_text offset length
asked d (requests.Threads offset length) = piece_text d.threads offset length
asked d requests.Attached = codes "1"
asked d requests.Actions = codes "vCont;c;C;s;S;r"
asked d requests.Write = error_text
asked d requests.Malformed = error_text
asked d _ = []

abbrev pub text_of : Reply → List ℕ
text_of (Text bytes) = bytes.items
text_of (Last bytes) = bytes.items

-- whether a session is over behind an answer
abbrev pub is_last : Reply → Bool
is_last (Text bytes) = false
is_last (Last bytes) = true

-- a session goes on behind an answer
abbrev pub IsNotLast : Reply → Type 0
IsNotLast reply = is_last reply ≡ false

-- of what a reader still has nothing was read
abbrev pub ReadsNothing : {R Bytes : Type 0} → (R → Bytes) → R → R → Type 0
ReadsNothing remaining old new = remaining new ≡ remaining old

-- a packet leaves the process, or ends it
abbrev pub is_leaving : Request → Bool
is_leaving requests.Detach = true
is_leaving requests.Kill = true
is_leaving _ = false

-- ---- what is set, and taken away
abbrev pub with_breaks : DebugState → List ℕ → DebugState
with_breaks d breaks = record d { breaks = breaks }

abbrev pub with_watches : DebugState → List Watch → DebugState
with_watches d watches = record d { watches = watches }

abbrev pub set_break : ℕ → List ℕ → List ℕ
set_break address breaks = if list_any (λ other. other == address) breaks then breaks else breaks ++ address ∷ []

abbrev pub clear_break : ℕ → List ℕ → List ℕ
clear_break address breaks = filter (λ other. not (other == address)) breaks

-- whether two kinds of watchpoints are the same
abbrev pub is_watched : Watched → Watched → Bool
is_watched Writes Writes = true
is_watched Reads Reads = true
is_watched Both Both = true
is_watched kind other = false

abbrev pub is_watch : Watch → Watch → Bool
is_watch watch other = is_watched watch.kind other.kind && ((watch.address == other.address) && (watch.length == other.length))

abbrev pub set_watch : Watch → List Watch → List Watch
set_watch watch watches = if list_any (λ other. is_watch other watch) watches then watches else watches ++ watch ∷ []

abbrev pub clear_watch : Watch → List Watch → List Watch
clear_watch watch watches = filter (λ other. not (is_watch other watch)) watches
