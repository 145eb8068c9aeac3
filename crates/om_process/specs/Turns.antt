-- Turns of a process, and what receipts lead to.
use Rattle.std.specs.Prelude.{◌≡◌, ℕ, zero, suc, ◌+◌, List, [], ◌∷◌, length, slice_index, slice_range, Option, Some, Bool, false, if◌then◌else◌, nat_lt, nat_le, ◌||◌}
use Rattle.std.specs.Option.{option_map_or}
use Rattle.om_machine.specs.State.{State}
use Rattle.om_machine.specs.derived.NextStep.{next_of}
use Rattle.om_machine.specs.Finishing.{finished_word, finished_who}
use Rattle.om_machine.specs.declared.event.Event.{Event}
use Rattle.om_machine.specs.declared.event.Event.TheVariants.{Went, Call, Trap}
use Rattle.om_machine.specs.declared.event.EnvCall.TheVariants.{Exit, Send, Receive, Output, Who}
use Rattle.om_machine.specs.declared.event.Cause.TheVariants.{BufferOutside}
use Rattle.om_format.specs.declared.limits.TheConstants.{MAX_BODY}
use Rattle.om_process.specs.declared.limits.TheConstants.{REFUSED, LAST_NUMBER}
use Rattle.om_process.specs.Process.{Process, Received, Program, Move, Waits, Ends, Traps, Goes, Emits, made, moved, delivered, started}

-- bytes of memory that are made a message or an output, unless one of them lies outside
abbrev pub emits : ℕ → ℕ → ℕ → State → Move
emits place addr len m =
    if nat_le (addr + len) (length m.memory)
    then Emits place (slice_range m.memory addr (addr + len)) (finished_word 0 m)
    else Traps BufferOutside

-- a call that is answered with a refusal
abbrev pub refuses : State → Move
refuses m = Goes (finished_word REFUSED m)

-- a process of n, which made so many messages and outputs, may not send so many bytes to this one: there is none, they are too many, or
-- the numbers of its messages are used up
abbrev pub may_not_send : ℕ → List ℕ → ℕ → ℕ → Bool
may_not_send n counts to len = nat_le n to || (nat_lt MAX_BODY len || nat_le LAST_NUMBER (slice_index counts to))

-- what comes after an event of the machine: process `own` of n, which made so many messages and outputs
abbrev pub after_event : ℕ → ℕ → State → List ℕ → Event → State → Move
after_event own n m counts Went next = Goes next
after_event own n m counts (Trap cause) next = Traps cause
after_event own n m counts (Call (Exit code)) next = Ends code
after_event own n m counts (Call (Send to addr len)) next = if may_not_send n counts to len then refuses m else emits to addr len m
after_event own n m counts (Call (Receive addr cap)) next = if nat_le (addr + cap) (length m.memory) then Waits else Traps BufferOutside
after_event own n m counts (Call (Output addr len)) next = if nat_lt MAX_BODY len then refuses m else emits n addr len m
after_event own n m counts (Call Who) next = Goes (finished_who own n m)

-- what comes next at this machine
unfoldable pub next_move : ℕ → ℕ → State → List ℕ → Move
next_move own n m counts = after_event own n m counts (next_of m).0 (next_of m).1

-- the process after one turn, where there is one
abbrev pub next_turn : ℕ → ℕ → Process → Option Process
next_turn own n p = moved p (next_move own n p.machine (made p.queues))

-- the process stands at a receive whose buffer lies in memory
abbrev pub IsWaiting : ℕ → ℕ → Process → Type 0
IsWaiting own n p = next_move own n p.machine (made p.queues) ≡ Waits

-- so many turns lead from one state to another
abbrev pub Turns : ℕ → ℕ → ℕ → Process → Process → Type 0
Turns own n zero s t = t ≡ s
Turns own n (suc k) s t = (m : Process) × (next_turn own n s ≡ Some m) × Turns own n k m t

-- the receipts lead from one state to another: each is delivered after as many turns as lead to a wait
abbrev pub Leads : ℕ → ℕ → List Received → Process → Process → Type 0
Leads own n [] s t = t ≡ s
Leads own n (r ∷ rs) s t = (k : ℕ) × (w : Process) × Turns own n k s w × IsWaiting own n w × Leads own n rs (delivered own w r) t

-- the state is reached from the start of the program by these receipts, and then so many turns
abbrev pub Along : Program → ℕ → ℕ → List Received → ℕ → Process → Type 0
Along program own n h k t = (a : Process) × Leads own n h (started program n) a × Turns own n k a t

-- the state is reached from the start of the program by these receipts, and then some number of turns
abbrev pub Reaches : Program → ℕ → ℕ → List Received → Process → Type 0
Reaches program own n h t = (k : ℕ) × Along program own n h k t

-- the event is a send that is refused
abbrev pub is_refused_send : ℕ → List ℕ → Event → Bool
is_refused_send n counts (Call (Send to addr len)) = may_not_send n counts to len
is_refused_send n counts _ = false

-- how many sends so many turns refuse
abbrev pub refused_sends : ℕ → ℕ → ℕ → Process → ℕ
refused_sends own n zero p = 0
refused_sends own n (suc k) p =
    (if is_refused_send n (made p.queues) (next_of p.machine).0 then 1 else 0) + option_map_or (refused_sends own n k) (next_turn own n p) 0
