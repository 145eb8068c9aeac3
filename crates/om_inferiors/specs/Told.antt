-- What packets are told of several processes.
use Rattle.std.specs.Prelude.{◌≡◌, ◌⊎◌, ℕ, Bool, true, false, ◌&&◌, ◌==◌, List, [], ◌∷◌, ◌++◌, length, slice_get, slice_set, position, remove, Option, None, Some, is_some, option_map, string_bytes, codes, if◌then◌else◌}
use Rattle.std.specs.Fmt.{digits}
use Rattle.om_machine.specs.declared.event.Cause.{Cause}
use Rattle.om_machine.specs.declared.event.Cause.TheVariants as causes
use Rattle.om_requests.specs.Answers.{error_text, memory_text, piece_text, registers_text, target_text}
use Rattle.om_requests.specs.declared.group.GroupRequest.{GroupRequest}
use Rattle.om_requests.specs.declared.group.GroupRequest.TheVariants as groups
use Rattle.om_requests.specs.declared.group.Whom.{Whom}
use Rattle.om_requests.specs.declared.group.Whom.TheVariants.{Any, Whole, One}
use Rattle.om_requests.specs.declared.request.Request.TheVariants as requests
use Rattle.om_timeline.specs.Timeline.{machine_here}
use Rattle.om_debug.specs.declared.debugger.Reply.{Reply}
use Rattle.om_debug.specs.declared.stop.Stop.{Stop}
use Rattle.om_debug.specs.declared.stop.Stop.TheVariants as stops
use Rattle.om_debug.specs.Standing.{standing_text}
use Rattle.om_debug.specs.Stops.{DebugState, watch_word}
use Rattle.om_debug.specs.Told.{clear_break, clear_watch, is_last, is_leaving, ok_if, set_break, set_watch, text_of, with_breaks, with_watches}
use Rattle.om_inferiors.specs.declared.inferior.Inferior.{Inferior}
use Rattle.om_inferiors.specs.declared.inferiors.Inferiors.{Inferiors}
use Rattle.om_inferiors.specs.Monitor.{IsGroupCommanded}
use Rattle.om_inferiors.specs.Moving.{AreBack, AreOn, IsLastOf, IsNoStepBack, StandsAt, with_debugger}

-- ---- stops
-- SIGSEGV (11) for an address outside memory, SIGBUS (10) for one that is not aligned, SIGTRAP (5) for EBREAK, SIGILL (4) for the rest
abbrev pub trap_signal : Cause → List ℕ
trap_signal causes.FetchOutside = codes "T0b"
trap_signal causes.DataOutside = codes "T0b"
trap_signal causes.BufferOutside = codes "T0b"
trap_signal causes.TargetMisaligned = codes "T0a"
trap_signal causes.DataMisaligned = codes "T0a"
trap_signal causes.Break = codes "T05"
trap_signal causes.Illegal = codes "T04"
trap_signal causes.UnknownCall = codes "T04"
trap_signal causes.CountFull = codes "T04"

-- SIGPWR is 32, and SIGINT 2
abbrev pub signal_text : Stop → List ℕ
signal_text stops.Failed = codes "T20"
signal_text stops.Paused = codes "T02"
signal_text (stops.Trapped cause) = trap_signal cause
signal_text _ = codes "T05"

abbrev pub reason_text : Stop → List ℕ
reason_text stops.Break = codes "swbreak:;"
reason_text (stops.Watched watch) = watch_word watch.kind ++ codes ":" ++ digits 16 false watch.address ++ codes ";"
reason_text stops.Begin = codes "replaylog:begin;"
reason_text stops.End = codes "replaylog:end;"
reason_text _ = []

-- a stop of the process of a number
abbrev pub group_stop_text : ℕ → Stop → List ℕ
group_stop_text number stop = signal_text stop ++ codes "thread:p" ++ digits 16 false number ++ codes ".1;" ++ reason_text stop

-- ---- who is meant
-- where the process of a number stands among those that are shown
abbrev pub place_of_inferior : List Inferior → ℕ → Option ℕ
place_of_inferior members number = position (λ (m : Inferior). m.number == number) members

abbrev pub at_place : List Inferior → Option ℕ → Option Inferior
at_place members None = None
at_place members (Some place) = slice_get members place

-- the process of a number, if it is shown
abbrev pub member_of : List Inferior → ℕ → Option Inferior
member_of members number = at_place members (place_of_inferior members number)

-- the number of the one that is meant
abbrev pub number_of : Inferiors → Whom → ℕ
number_of d Any = d.focus
number_of d (Whole n) = n
number_of d (One n) = n

abbrev pub is_there : List Inferior → Whom → Bool
is_there members Any = true
is_there members (Whole n) = is_some (place_of_inferior members n)
is_there members (One n) = is_some (place_of_inferior members n)

-- the number that is named, or the one that was meant before
abbrev pub named_or : ℕ → Whom → ℕ
named_or n Any = n
named_or n (Whole m) = m
named_or n (One m) = m

abbrev pub named : Whom → Option ℕ
named Any = None
named (Whole n) = Some n
named (One n) = Some n

-- ---- what is only asked
abbrev pub registers_of : Option Inferior → List ℕ
registers_of None = error_text
registers_of (Some m) = registers_text (machine_here m.debugger.timeline)

abbrev pub memory_of : Option Inferior → ℕ → ℕ → List ℕ
memory_of None address length = error_text
memory_of (Some m) address length = memory_text (machine_here m.debugger.timeline) address length

abbrev pub thread_text : Inferior → List ℕ
thread_text m = codes "<thread id=\"p" ++ digits 16 false m.number ++ codes ".1\" name=\"" ++ string_bytes m.name ++ codes "\">" ++ standing_text m.debugger ++ codes "</thread>"

abbrev pub threads_of : List Inferior → List ℕ
threads_of [] = []
threads_of (m ∷ members) = thread_text m ++ threads_of members

-- the list of threads, one of each process
abbrev pub threads_text : List Inferior → List ℕ
threads_text members = codes "<?xml version=\"1.0\"?><threads>" ++ threads_of members ++ codes "</threads>"

abbrev pub piece_if : Option (List ℕ) → ℕ → ℕ → List ℕ
piece_if None offset length = error_text
piece_if (Some text) offset length = piece_text text offset length

abbrev pub file_of : Option Inferior → Option (List ℕ)
file_of None = None
file_of (Some m) = option_map string_bytes m.file

-- what a packet that only asks is told; all others nothing
abbrev pub asked_group : Inferiors → GroupRequest → List ℕ
asked_group d (groups.File n offset length) = piece_if (file_of (member_of d.members.items n)) offset length
asked_group d (groups.Other requests.Supported) = codes "PacketSize=4000;QStartNoAckMode+;qXfer:features:read+;qXfer:threads:read+;qXfer:exec-file:read+;ReverseStep+;ReverseContinue+;vContSupported+;swbreak+;hwbreak+;multiprocess+"
asked_group d (groups.Other requests.StartNoAckMode) = codes "OK"
asked_group d (groups.Other requests.Why) = group_stop_text d.focus stops.Here
asked_group d (groups.Other requests.Registers) = registers_of (member_of d.members.items d.selected)
asked_group d (groups.Other (requests.Memory address length)) = memory_of (member_of d.members.items d.selected) address length
asked_group d (groups.Other (requests.Target offset length)) = piece_text target_text offset length
asked_group d (groups.Other (requests.Threads offset length)) = piece_text (threads_text d.members.items) offset length
asked_group d (groups.Other requests.Attached) = codes "1"
asked_group d (groups.Other requests.Actions) = codes "vCont;c;C;s;S;r"
asked_group d (groups.Other requests.Write) = error_text
asked_group d (groups.Other requests.Malformed) = error_text
asked_group d _ = []

-- ---- what is set, and who is left
-- a process is set anew, where it is shown
abbrev pub set_place : List Inferior → ℕ → (DebugState → DebugState) → Option Inferior → List Inferior
set_place members place change None = members
set_place members place change (Some m) = slice_set members place (with_debugger m (change m.debugger))

abbrev pub set_members : List Inferior → Option ℕ → (DebugState → DebugState) → List Inferior
set_members members None change = members
set_members members (Some place) change = set_place members place change (slice_get members place)

-- of the process that is meant a breakpoint or a watchpoint is set anew
pub record IsSet (old : Inferiors) (change : DebugState → DebugState) (told : Reply) (new : Inferiors) : Type 0 where
  pub text : text_of told ≡ ok_if (is_some (place_of_inferior old.members.items old.selected))
  pub members : new.members.items ≡ set_members old.members.items (place_of_inferior old.members.items old.selected) change
  pub selected : new.selected ≡ old.selected
  pub going : new.going ≡ old.going
  pub focus : new.focus ≡ old.focus

abbrev pub left_members : List Inferior → Option ℕ → List Inferior
left_members members None = members
left_members members (Some place) = remove members place

-- a process is shown no more, and it is over when none is left
pub record IsLeft (old : Inferiors) (number : ℕ) (told : Reply) (new : Inferiors) : Type 0 where
  pub text : text_of told ≡ ok_if (is_some (place_of_inferior old.members.items number))
  pub members : new.members.items ≡ left_members old.members.items (place_of_inferior old.members.items number)
  pub last : is_last told ≡ (is_some (place_of_inferior old.members.items number) && (length new.members.items == 0))
  pub selected : new.selected ≡ old.selected
  pub going : new.going ≡ old.going
  pub focus : new.focus ≡ old.focus

-- ---- answers
-- a stop is told of the process at a place, and that one is meant from now on
pub record IsTold (old : Inferiors) (place : ℕ) (stop : Stop) (told : Reply) (new : Inferiors) : Type 0 where
  pub member : Inferior
  pub is_there : slice_get new.members.items place ≡ Some member
  pub text : text_of told ≡ group_stop_text member.number stop
  pub goes_on : is_last told ≡ false
  pub selected : new.selected ≡ member.number
  pub focus : new.focus ≡ member.number
  pub going : new.going ≡ old.going

-- all have gone on: nothing stops any of them at a position that it passed, and one stands where it does for this, which is told
pub record IsGroupOn (old : Inferiors) (told : Reply) (new : Inferiors) : Type 0 where
  pub place : ℕ
  pub stop : Stop
  pub is_told : IsTold old place stop told new
  pub on : AreOn old.members.items new.members.items
  pub stands : StandsAt new.members.items place stop

-- what one is told who lets one process of several go on alone
abbrev pub alone_text : List ℕ
alone_text = codes "E.time goes on for all processes: first say set schedule-multiple on"

-- one who is not shown, or who would go on alone, is refused, and nothing has changed
pub record IsRefused (old : Inferiors) (told : Reply) (new : Inferiors) : Type 0 where
  pub error : (text_of told ≡ error_text) ⊎ (text_of told ≡ alone_text)
  pub goes_on : is_last told ≡ false
  pub same : new ≡ old

-- all have gone back, and the last of their stops is told; or nothing came to the one that was to go back by a step
pub record IsGroupBack (old : Inferiors) (told : Reply) (new : Inferiors) : Type 0 where
  pub place : ℕ
  pub stop : Stop
  pub is_told : IsTold old place stop told new
  pub back : AreBack old.members.items new.members.items
  pub last : IsLastOf old.members.items new.members.items place stop ⊎ IsNoStepBack old.members.items new.members.items place stop

abbrev pub IsGroupAnswered : GroupRequest → Inferiors → Reply → Inferiors → Type 0
IsGroupAnswered (groups.Resume how whom) old told new = IsGroupOn old told new ⊎ IsRefused old told new
IsGroupAnswered (groups.Select whom) old told new =
    (text_of told ≡ ok_if (is_there old.members.items whom)) × (new ≡ (if is_there old.members.items whom then record old { selected = named_or old.selected whom } else old))
IsGroupAnswered (groups.SelectGoing whom) old told new =
    (text_of told ≡ ok_if (is_there old.members.items whom)) × (new ≡ (if is_there old.members.items whom then record old { going = named whom } else old))
IsGroupAnswered (groups.IsAlive whom) old told new =
    (text_of told ≡ ok_if (is_there old.members.items whom)) × (new ≡ (if is_there old.members.items whom then record old { focus = named_or old.focus whom } else old))
IsGroupAnswered (groups.Leave number) old told new = IsLeft old number told new
IsGroupAnswered (groups.Other requests.BackStep) old told new = IsGroupBack old told new ⊎ IsRefused old told new
IsGroupAnswered (groups.Other requests.BackContinue) old told new = IsGroupBack old told new ⊎ IsRefused old told new
IsGroupAnswered (groups.Other (requests.SetBreak address)) old told new = IsSet old (λ d. with_breaks d (set_break address d.breaks)) told new
IsGroupAnswered (groups.Other (requests.ClearBreak address)) old told new = IsSet old (λ d. with_breaks d (clear_break address d.breaks)) told new
IsGroupAnswered (groups.Other (requests.SetWatch watch)) old told new = IsSet old (λ d. with_watches d (set_watch watch d.watches)) told new
IsGroupAnswered (groups.Other (requests.ClearWatch watch)) old told new = IsSet old (λ d. with_watches d (clear_watch watch d.watches)) told new
IsGroupAnswered (groups.Other (requests.Monitor command)) old told new = IsGroupCommanded command old told new
IsGroupAnswered (groups.Other requests.Detach) old told new = (text_of told ≡ codes "OK") × (new ≡ old)
IsGroupAnswered (groups.Other requests.Kill) old told new = (text_of told ≡ codes "OK") × (new ≡ old)
IsGroupAnswered request old told new = (text_of told ≡ asked_group old request) × (new ≡ old)

-- a session is over behind the answer, or goes on: whether it is when a process is left hangs on how many are
abbrev pub IsGroupEnd : GroupRequest → Reply → Type 0
IsGroupEnd (groups.Leave number) told = Unit {0}
IsGroupEnd (groups.Other request) told = is_last told ≡ is_leaving request
IsGroupEnd request told = is_last told ≡ false
