-- What stops a process, and what stops are told as.
use Rattle.std.specs.Prelude.{◌≡◌, ◌≢◌, ℕ, ◌+◌, ◌<◌, ◌≤◌, ◌⊎◌, Bool, false, ◌&&◌, ◌||◌, nat_lt, List, length, ◌++◌, ◌==◌, Option, Some, None, codes, if◌then◌else◌, slice_get}
use Rattle.std.specs.Fmt.{digits}
use Rattle.std.specs.List.{list_any}
use Rattle.om_machine.specs.State.{State}
use Rattle.om_machine.specs.declared.event.Cause.{Cause}
use Rattle.om_machine.specs.declared.event.Cause.TheVariants as causes
use Rattle.om_process.specs.declared.status.Status.{Status}
use Rattle.om_process.specs.declared.status.Status.TheVariants as statuses
use Rattle.om_process.specs.Core.{status_of}
use Rattle.om_requests.specs.declared.request.Watch.{Watch}
use Rattle.om_requests.specs.declared.request.Watched.{Watched}
use Rattle.om_requests.specs.declared.request.Watched.TheVariants.{Writes, Reads, Both}
use Rattle.om_timeline.specs.declared.deed.Deed.{Deed}
use Rattle.om_timeline.specs.Alone.{move_alone}
use Rattle.om_timeline.specs.Deeds.{at_position, turns_at}
use Rattle.om_timeline.specs.Timeline.{TimelineState, at, machine_here}
use Rattle.om_debug.specs.declared.moment.Next.TheVariants.{Still}
use Rattle.om_debug.specs.declared.stop.Stop.{Stop}
use Rattle.om_debug.specs.declared.stop.Stop.TheVariants as stops
use Rattle.om_debug.specs.Moments.{is_at_instruction, next_at}
use Rattle.om_debug.specs.Watching.{watch_met}

-- ---- what stops the process
-- a process of a record, where it is to stop, its name, and the list of its one thread
pub record DebugState : Type 0 where
  pub timeline : TimelineState
  pub breaks : List ℕ  -- addresses of instructions
  pub watches : List Watch
  pub name : List ℕ
  pub threads : List ℕ

-- the machine of the process at a position of the tape
abbrev pub machine_at : TimelineState → ℕ → ℕ → State
machine_at t event turns = at_position t.process t.n t.first t.deeds event turns

-- the instruction that comes next has a breakpoint
abbrev pub breaks_at : List ℕ → TimelineState → ℕ → ℕ → Bool
breaks_at breaks t event turns =
    is_at_instruction (next_at t.deeds event turns) && list_any (λ address. address == (machine_at t event turns).pc) breaks

-- what comes next meets a watchpoint
abbrev pub watch_at : List Watch → TimelineState → ℕ → ℕ → Option Watch
watch_at watches t event turns = watch_met watches (machine_at t event turns) (slice_get t.deeds event) (next_at t.deeds event turns)

abbrev pub watch_stop : Option Watch → Option Stop
watch_stop None = None
watch_stop (Some watch) = Some (stops.Watched watch)

-- what stops the process right before what comes next, if anything does
abbrev pub stop_at : List ℕ → List Watch → TimelineState → ℕ → ℕ → Option Stop
stop_at breaks watches t event turns =
    if breaks_at breaks t event turns then Some stops.Break else watch_stop (watch_at watches t event turns)

-- a breakpoint or a watchpoint is set, so that something may stop the process
abbrev pub has_stops : DebugState → Bool
has_stops d = nat_lt 0 (length d.breaks) || nat_lt 0 (length d.watches)

-- ---- positions
-- the one position is before the other
abbrev pub IsBefore : ℕ → ℕ → ℕ → ℕ → Type 0
IsBefore event turns other done = (event < other) ⊎ ((event ≡ other) × (turns < done))

-- the one position is the other, or behind it
abbrev pub IsFrom : ℕ → ℕ → ℕ → ℕ → Type 0
IsFrom event turns other done = (event < other) ⊎ ((event ≡ other) × (turns ≤ done))

-- at none of the positions of a tape from the one on and before the other does anything stop the process
abbrev pub IsQuiet : List ℕ → List Watch → TimelineState → ℕ → ℕ → ℕ → ℕ → Type 0
IsQuiet breaks watches t event turns end done = (e k : ℕ) → IsFrom event turns e k → IsBefore e k end done → k ≤ turns_at t.deeds e
    → stop_at breaks watches t e k ≡ None

-- nothing stops the process at a position between the one and the other, these two not counted
abbrev pub IsQuietBehind : List ℕ → List Watch → TimelineState → ℕ → ℕ → ℕ → ℕ → Type 0
IsQuietBehind breaks watches t event turns end done = (e k : ℕ) → IsBefore event turns e k → IsBefore e k end done → k ≤ turns_at t.deeds e
    → stop_at breaks watches t e k ≡ None

-- ---- ways
-- the second timeline is the first at some position, of which some events more may have been played
pub record IsMoved (old new : TimelineState) : Type 0 where
  pub more : List Deed
  pub is : new ≡ record old { deeds = old.deeds ++ more; event = new.event; turns = new.turns }

-- a debugger's state with another timeline
abbrev pub with_timeline : DebugState → TimelineState → DebugState
with_timeline d t = record d { timeline = t }

-- of a debugger's state only the timeline changed
abbrev pub ChangesTimelineAlone : DebugState → DebugState → Type 0
ChangesTimelineAlone old new = new ≡ with_timeline old new.timeline

-- the position is one of the tape
pub record IsWithin (t : TimelineState) : Type 0 where
  pub played : t.event ≤ length t.deeds
  pub few : t.turns ≤ turns_at t.deeds t.event

-- nothing stops the process in the rest of the event
pub record IsQuietRest (d : DebugState) : Type 0 where
  pub quiet : (k : ℕ) → d.timeline.turns ≤ k → k ≤ turns_at d.timeline.deeds d.timeline.event
      → stop_at d.breaks d.watches d.timeline d.timeline.event k ≡ None

-- nothing stops the process on the way from the one position to the other
pub record IsPassed (old new : DebugState) : Type 0 where
  pub quiet : IsQuiet new.breaks new.watches new.timeline old.timeline.event old.timeline.turns new.timeline.event new.timeline.turns

-- what the process is about to do
abbrev pub status_here : TimelineState → Status
status_here t = status_of (move_alone t.process t.n (machine_here t))

abbrev pub breaks_here : DebugState → Bool
breaks_here d = breaks_at d.breaks d.timeline d.timeline.event d.timeline.turns

abbrev pub watch_here : DebugState → Option Watch
watch_here d = watch_at d.watches d.timeline d.timeline.event d.timeline.turns

abbrev pub stop_here : DebugState → Option Stop
stop_here d = stop_at d.breaks d.watches d.timeline d.timeline.event d.timeline.turns

-- the process stands where it does for this
abbrev pub StandsFor : DebugState → Stop → Type 0
StandsFor d stops.Break = stop_here d ≡ Some stops.Break
StandsFor d (stops.Watched watch) = stop_here d ≡ Some (stops.Watched watch)
StandsFor d (stops.Trapped cause) = status_here d.timeline ≡ statuses.Trapped cause
StandsFor d stops.Begin = (d.timeline.event ≡ 0) × (d.timeline.turns ≡ 0)
StandsFor d stops.End = length d.timeline.events ≤ d.timeline.event
StandsFor d other = Unit {0}

-- ---- the way back
-- nothing comes to the process before a position
abbrev pub IsStillBefore : List Deed → ℕ → ℕ → Type 0
IsStillBefore deeds end done = (e k : ℕ) → IsBefore e k end done → k ≤ turns_at deeds e → next_at deeds e k ≡ Still

-- what came last to the process before the second position came at the first one
pub record IsLast (deeds : List Deed) (event turns end done : ℕ) : Type 0 where
  pub before : IsBefore event turns end done
  pub few : turns ≤ turns_at deeds event
  pub comes : next_at deeds event turns ≢ Still
  pub still : (e k : ℕ) → IsBefore event turns e k → IsBefore e k end done → k ≤ turns_at deeds e → next_at deeds e k ≡ Still

-- a debugger's state at another position of its timeline
abbrev pub standing : DebugState → ℕ → ℕ → DebugState
standing d event turns = with_timeline d (at d.timeline event turns)

-- of a debugger's state only the position changed
abbrev pub ChangesPositionAlone : DebugState → DebugState → Type 0
ChangesPositionAlone old new = new ≡ standing old new.timeline.event new.timeline.turns

-- a step back leads here, for this: right before what came last to the process, where a breakpoint may stand; or it stays, where that
-- accesses what is watched, or where nothing came before
abbrev pub IsStepBack : DebugState → DebugState → Stop → Type 0
IsStepBack old new stops.Stepped = IsLast new.timeline.deeds new.timeline.event new.timeline.turns old.timeline.event old.timeline.turns × (stop_here new ≡ None)
IsStepBack old new stops.Break = IsLast new.timeline.deeds new.timeline.event new.timeline.turns old.timeline.event old.timeline.turns × (watch_here new ≡ None) × (stop_here new ≡ Some stops.Break)
IsStepBack old new (stops.Watched watch) = (new ≡ old) × ((event : ℕ) × (turns : ℕ) × IsLast old.timeline.deeds event turns old.timeline.event old.timeline.turns
    × (watch_at old.watches old.timeline event turns ≡ Some watch))
IsStepBack old new stops.Begin = (new ≡ old) × IsStillBefore old.timeline.deeds old.timeline.event old.timeline.turns
IsStepBack old new other = ⊥

-- right behind what comes next at a position: an instruction of which more follow in the event, or all that is left of the event
abbrev pub IsBehind : List Deed → ℕ → ℕ → ℕ → ℕ → Type 0
IsBehind deeds event turns next done =
    ((next ≡ event) × (done ≡ turns + 1)) ⊎ ((next ≡ event + 1) × (done ≡ 0) × (turns_at deeds event ≤ turns + 1))

-- one who goes back stops here, for this: at the last breakpoint before the old position, or right behind the last access to what is
-- watched, whichever is later; at the begin, where there is neither; or anywhere behind both, where a stop was wished
abbrev pub IsRunBack : DebugState → DebugState → Stop → Type 0
IsRunBack old new stops.Break = IsBefore new.timeline.event new.timeline.turns old.timeline.event old.timeline.turns × (stop_here new ≡ Some stops.Break) × (watch_here new ≡ None)
    × IsQuietBehind new.breaks new.watches new.timeline new.timeline.event new.timeline.turns old.timeline.event old.timeline.turns
IsRunBack old new (stops.Watched watch) = ((event : ℕ) × (turns : ℕ) × IsBefore event turns old.timeline.event old.timeline.turns
    × IsBehind new.timeline.deeds event turns new.timeline.event new.timeline.turns × (watch_at new.watches new.timeline event turns ≡ Some watch))
    × IsQuiet new.breaks new.watches new.timeline new.timeline.event new.timeline.turns old.timeline.event old.timeline.turns
IsRunBack old new stops.Begin = (new.timeline.event ≡ 0) × (new.timeline.turns ≡ 0) × IsQuiet new.breaks new.watches new.timeline 0 0 old.timeline.event old.timeline.turns
IsRunBack old new stops.Paused = IsFrom new.timeline.event new.timeline.turns old.timeline.event old.timeline.turns
    × IsQuiet new.breaks new.watches new.timeline new.timeline.event new.timeline.turns old.timeline.event old.timeline.turns
IsRunBack old new other = ⊥

-- a part of the way back was gone and nothing stopped, or one stops here
abbrev pub IsPartBack : DebugState → DebugState → Option Stop → Type 0
IsPartBack old new None = IsFrom new.timeline.event new.timeline.turns old.timeline.event old.timeline.turns × IsQuiet new.breaks new.watches new.timeline new.timeline.event new.timeline.turns old.timeline.event old.timeline.turns
IsPartBack old new (Some stop) = IsRunBack old new stop

-- one who looks back no further than to before an event stops here, for this, which may be before the event; or nothing stops from the
-- event on up to the old position
abbrev pub IsLookedBack : ℕ → DebugState → DebugState → Option Stop → Type 0
IsLookedBack event old new None = IsQuiet old.breaks old.watches old.timeline event 0 old.timeline.event old.timeline.turns
IsLookedBack event old new (Some stop) = IsRunBack old new stop

-- ---- texts
-- SIGSEGV (11) for an address outside memory, SIGBUS (10) for one that is not aligned, SIGTRAP (5) for EBREAK, SIGILL (4) for the rest
abbrev pub trap_text : Cause → List ℕ
trap_text causes.FetchOutside = codes "T0bthread:1;"
trap_text causes.DataOutside = codes "T0bthread:1;"
trap_text causes.BufferOutside = codes "T0bthread:1;"
trap_text causes.TargetMisaligned = codes "T0athread:1;"
trap_text causes.DataMisaligned = codes "T0athread:1;"
trap_text causes.Break = codes "T05thread:1;"
trap_text causes.Illegal = codes "T04thread:1;"
trap_text causes.UnknownCall = codes "T04thread:1;"
trap_text causes.CountFull = codes "T04thread:1;"

abbrev pub watch_word : Watched → List ℕ
watch_word Writes = codes "watch"
watch_word Reads = codes "rwatch"
watch_word Both = codes "awatch"

-- SIGPWR is 32, and SIGINT 2
abbrev pub stop_text : Stop → List ℕ
stop_text stops.Here = codes "T05thread:1;"
stop_text stops.Stepped = codes "T05thread:1;"
stop_text stops.Break = codes "T05thread:1;swbreak:;"
stop_text (stops.Watched watch) = codes "T05thread:1;" ++ watch_word watch.kind ++ codes ":" ++ digits 16 false watch.address ++ codes ";"
stop_text stops.Failed = codes "T20thread:1;"
stop_text (stops.Trapped cause) = trap_text cause
stop_text stops.Paused = codes "T02thread:1;"
stop_text stops.Begin = codes "T05thread:1;replaylog:begin;"
stop_text stops.End = codes "T05thread:1;replaylog:end;"
