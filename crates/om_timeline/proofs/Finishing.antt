-- What the calls of a machine come to.
use Rattle.std.proofs.Common.{◌≡◌, ℕ, ◌+◌, ◌<◌, ◌≤◌, List, [], Option, Some, None, Bool, true, false, length, refl, ap, ◌∙◌, arith}
use Rattle.std.specs.Prelude.{◌||◌, if◌then◌else◌, nat_le, nat_lt, slice_index, slice_range}
use Rattle.std.proofs.lemmas.Bool.{le-leb, lt-leb}
use Rattle.std.proofs.lemmas.Bool.Decides.{nat_tests}
use Rattle.om_format.specs.declared.limits.TheConstants.{MAX_BODY}
use Rattle.om_machine.specs.State.{State}
use Rattle.om_machine.specs.Finishing.{finished_receive, finished_who, finished_word}
use Rattle.om_machine.specs.derived.NextStep.{next_of}
use Rattle.om_machine.specs.declared.event.Cause.{Cause}
use Rattle.om_machine.specs.declared.event.Cause.TheVariants.{BufferOutside}
use Rattle.om_machine.specs.declared.event.Event.{Event}
use Rattle.om_machine.specs.declared.event.Event.TheVariants.{Went, Call, Trap}
use Rattle.om_machine.specs.declared.event.EnvCall.TheVariants.{Exit, Send, Receive, Output, Who}
use Rattle.om_process.specs.declared.limits.TheConstants.{LAST_NUMBER, REFUSED}
use Rattle.om_process.specs.declared.status.Status.{Status}
use Rattle.om_process.specs.declared.status.Status.TheVariants as statuses
use Rattle.om_process.specs.Core.{status_of}
use Rattle.om_process.specs.Process.{Move, Traps, Emits}
use Rattle.om_process.specs.Turns.{after_event, emits, next_move, refuses}
use Rattle.om_timeline.specs.Alone.{machine_moved, move_alone, received_alone, received_at, turn_alone}

-- what comes next, by the event at which the machine stands
pub move_at : (own n : ℕ) (m : State) (e : Event) → (next_of m).0 ≡ e → move_alone own n m ≡ after_event own n m [] e (next_of m).1
unfolding next_move
move_at own n m e at = ap (λ x. after_event own n m [] x (next_of m).1) at

pub turn_at : (own n : ℕ) (m : State) (e : Event) → (next_of m).0 ≡ e → turn_alone own n m ≡ machine_moved (after_event own n m [] e (next_of m).1)
turn_at own n m e at = ap machine_moved (move_at own n m e at)

-- ---- sends and outputs
pub emits_inside : (place addr len : ℕ) (m : State) → addr + len ≤ length m.memory → machine_moved (emits place addr len m) ≡ Some (finished_word 0 m)
emits_inside place addr len m inside = rw (le-leb (addr + len) (length m.memory) inside) refl

pub emits_outside : (place addr len : ℕ) (m : State) → length m.memory < addr + len → machine_moved (emits place addr len m) ≡ None
emits_outside place addr len m outside = rw (lt-leb (addr + len) (length m.memory) outside) refl

not_long : (len : ℕ) → len ≤ MAX_BODY → nat_lt MAX_BODY len ≡ false
not_long len short = grind (arith, nat_tests)

long : (len : ℕ) → MAX_BODY < len → nat_lt MAX_BODY len ≡ true
long len over = grind (arith, nat_tests)

send_event : (own n : ℕ) (m next : State) (to addr len : ℕ) → to < n → len ≤ MAX_BODY → after_event own n m [] (Call (Send to addr len)) next ≡ emits to addr len m
send_event own n m next to addr len place short = rw (lt-leb n to place, not_long len short) refl

send_refused : (own n : ℕ) (m next : State) (to addr len : ℕ) (b : Bool) → nat_le n to ≡ b → (to < n → MAX_BODY < len) → after_event own n m [] (Call (Send to addr len)) next ≡ refuses m
send_refused own n m next to addr len true test over = rw test refl
send_refused own n m next to addr len false test over =
    let place : to < n = grind (arith, nat_tests) in
    rw (test, long len (over place)) refl

pub sends : (own n : ℕ) (m : State) (to addr len : ℕ) → (next_of m).0 ≡ Call (Send to addr len) → to < n → len ≤ MAX_BODY → turn_alone own n m ≡ machine_moved (emits to addr len m)
sends own n m to addr len at place short =
    turn_at own n m (Call (Send to addr len)) at ∙ ap machine_moved (send_event own n m (next_of m).1 to addr len place short)

pub refuses_send : (own n : ℕ) (m : State) (to addr len : ℕ) → (next_of m).0 ≡ Call (Send to addr len) → (to < n → MAX_BODY < len) → turn_alone own n m ≡ Some (finished_word REFUSED m)
refuses_send own n m to addr len at over =
    turn_at own n m (Call (Send to addr len)) at ∙ ap machine_moved (send_refused own n m (next_of m).1 to addr len (nat_le n to) refl over)

output_event : (own n : ℕ) (m next : State) (addr len : ℕ) → len ≤ MAX_BODY → after_event own n m [] (Call (Output addr len)) next ≡ emits n addr len m
output_event own n m next addr len short = rw (not_long len short) refl

output_refused : (own n : ℕ) (m next : State) (addr len : ℕ) → MAX_BODY < len → after_event own n m [] (Call (Output addr len)) next ≡ refuses m
output_refused own n m next addr len over = rw (long len over) refl

pub puts_out : (own n : ℕ) (m : State) (addr len : ℕ) → (next_of m).0 ≡ Call (Output addr len) → len ≤ MAX_BODY → turn_alone own n m ≡ machine_moved (emits n addr len m)
puts_out own n m addr len at short =
    turn_at own n m (Call (Output addr len)) at ∙ ap machine_moved (output_event own n m (next_of m).1 addr len short)

pub refuses_output : (own n : ℕ) (m : State) (addr len : ℕ) → (next_of m).0 ≡ Call (Output addr len) → MAX_BODY < len → turn_alone own n m ≡ Some (finished_word REFUSED m)
refuses_output own n m addr len at over =
    turn_at own n m (Call (Output addr len)) at ∙ ap machine_moved (output_refused own n m (next_of m).1 addr len over)

pub tells : (own n : ℕ) (m : State) → (next_of m).0 ≡ Call Who → turn_alone own n m ≡ Some (finished_who own n m)
tells own n m at = turn_at own n m (Call Who) at

-- ---- where there is no turn
pub ended : (own n : ℕ) (m : State) (code : ℕ) → (next_of m).0 ≡ Call (Exit code) → turn_alone own n m ≡ None
ended own n m code at = turn_at own n m (Call (Exit code)) at

pub trapped : (own n : ℕ) (m : State) (cause : Cause) → (next_of m).0 ≡ Trap cause → turn_alone own n m ≡ None
trapped own n m cause at = turn_at own n m (Trap cause) at

none_if : (b : Bool) (x y : Move) → machine_moved x ≡ None → machine_moved y ≡ None → machine_moved (if b then x else y) ≡ None
none_if true x y first second = first
none_if false x y first second = second

pub waits : (own n : ℕ) (m : State) (addr cap : ℕ) → (next_of m).0 ≡ Call (Receive addr cap) → turn_alone own n m ≡ None
waits own n m addr cap at = turn_at own n m (Call (Receive addr cap)) at ∙ none_if (nat_le (addr + cap) (length m.memory)) _ _ refl refl

-- ---- receipts
pub receives : (own n from : ℕ) (body : List ℕ) (m : State) (addr cap : ℕ) → (next_of m).0 ≡ Call (Receive addr cap) → addr + cap ≤ length m.memory → received_alone own n from body m ≡ finished_receive from body m
receives own n from body m addr cap at inside =
    ap (λ move. received_at move from body m) (move_at own n m (Call (Receive addr cap)) at) ∙ rw (le-leb (addr + cap) (length m.memory) inside) refl

same_if : (from : ℕ) (body : List ℕ) (m : State) (b : Bool) (x y : Move) → received_at x from body m ≡ m → received_at y from body m ≡ m → received_at (if b then x else y) from body m ≡ m
same_if from body m true x y first second = first
same_if from body m false x y first second = second

stands_emits : (from : ℕ) (body : List ℕ) (m : State) (place addr len : ℕ) → received_at (emits place addr len m) from body m ≡ m
stands_emits from body m place addr len =
    same_if from body m (nat_le (addr + len) (length m.memory)) (Emits place (slice_range m.memory addr (addr + len)) (finished_word 0 m)) (Traps BufferOutside) refl refl

-- the machine does not stand at a receive whose buffer lies in memory
abbrev pub IsAway : State → Event → Type 0
IsAway m (Call (Receive addr cap)) = length m.memory < addr + cap
IsAway m _ = Unit {0}

stands_event : (own n from : ℕ) (body : List ℕ) (m next : State) (e : Event) → IsAway m e → received_at (after_event own n m [] e next) from body m ≡ m
stands_event own n from body m next Went away = refl
stands_event own n from body m next (Trap cause) away = refl
stands_event own n from body m next (Call (Exit code)) away = refl
stands_event own n from body m next (Call (Send to addr len)) away =
    same_if from body m (nat_le n to || (nat_lt MAX_BODY len || nat_le LAST_NUMBER (slice_index [] to))) (refuses m) (emits to addr len m) refl (stands_emits from body m to addr len)
stands_event own n from body m next (Call (Receive addr cap)) away = rw (lt-leb (addr + cap) (length m.memory) away) refl
stands_event own n from body m next (Call (Output addr len)) away =
    same_if from body m (nat_lt MAX_BODY len) (refuses m) (emits n addr len m) refl (stands_emits from body m n addr len)
stands_event own n from body m next (Call Who) away = refl

pub stands_away : (own n from : ℕ) (body : List ℕ) (m : State) (e : Event) → (next_of m).0 ≡ e → IsAway m e → received_alone own n from body m ≡ m
stands_away own n from body m e at away =
    ap (λ move. received_at move from body m) (move_at own n m e at) ∙ stands_event own n from body m (next_of m).1 e away

-- ---- a send or an output, by what came of its bytes
pub sends_as : (own n : ℕ) (m : State) (to addr len : ℕ) (o : Option State) → (next_of m).0 ≡ Call (Send to addr len) → to < n → len ≤ MAX_BODY → machine_moved (emits to addr len m) ≡ o → turn_alone own n m ≡ o
sends_as own n m to addr len o at place short is = sends own n m to addr len at place short ∙ is

pub puts_out_as : (own n : ℕ) (m : State) (addr len : ℕ) (o : Option State) → (next_of m).0 ≡ Call (Output addr len) → len ≤ MAX_BODY → machine_moved (emits n addr len m) ≡ o → turn_alone own n m ≡ o
puts_out_as own n m addr len o at short is = puts_out own n m addr len at short ∙ is

-- ---- what the process is about to do
told_at : (own n : ℕ) (m : State) (e : Event) (s : Status) → (next_of m).0 ≡ e → status_of (after_event own n m [] e (next_of m).1) ≡ s → status_of (move_alone own n m) ≡ s
told_at own n m e s at is = ap status_of (move_at own n m e at) ∙ is

pub goes_told : (own n : ℕ) (m : State) → (next_of m).0 ≡ Went → status_of (move_alone own n m) ≡ statuses.Ready
goes_told own n m at = told_at own n m Went statuses.Ready at refl

pub who_told : (own n : ℕ) (m : State) → (next_of m).0 ≡ Call Who → status_of (move_alone own n m) ≡ statuses.Ready
who_told own n m at = told_at own n m (Call Who) statuses.Ready at refl

pub exit_told : (own n : ℕ) (m : State) (code : ℕ) → (next_of m).0 ≡ Call (Exit code) → status_of (move_alone own n m) ≡ statuses.Ended code
exit_told own n m code at = told_at own n m (Call (Exit code)) (statuses.Ended code) at refl

pub trap_told : (own n : ℕ) (m : State) (cause : Cause) → (next_of m).0 ≡ Trap cause → status_of (move_alone own n m) ≡ statuses.Trapped cause
trap_told own n m cause at = told_at own n m (Trap cause) (statuses.Trapped cause) at refl

pub receive_told : (own n : ℕ) (m : State) (addr cap : ℕ) → (next_of m).0 ≡ Call (Receive addr cap) → addr + cap ≤ length m.memory → status_of (move_alone own n m) ≡ statuses.Waiting
receive_told own n m addr cap at inside = told_at own n m (Call (Receive addr cap)) statuses.Waiting at (rw (le-leb (addr + cap) (length m.memory) inside) refl)

pub receive_trap_told : (own n : ℕ) (m : State) (addr cap : ℕ) → (next_of m).0 ≡ Call (Receive addr cap) → length m.memory < addr + cap → status_of (move_alone own n m) ≡ statuses.Trapped BufferOutside
receive_trap_told own n m addr cap at outside = told_at own n m (Call (Receive addr cap)) (statuses.Trapped BufferOutside) at (rw (lt-leb (addr + cap) (length m.memory) outside) refl)

pub emits_told_inside : (place addr len : ℕ) (m : State) → addr + len ≤ length m.memory → status_of (emits place addr len m) ≡ statuses.Ready
emits_told_inside place addr len m inside = rw (le-leb (addr + len) (length m.memory) inside) refl

pub emits_told_outside : (place addr len : ℕ) (m : State) → length m.memory < addr + len → status_of (emits place addr len m) ≡ statuses.Trapped BufferOutside
emits_told_outside place addr len m outside = rw (lt-leb (addr + len) (length m.memory) outside) refl

pub send_told : (own n : ℕ) (m : State) (to addr len : ℕ) (s : Status) → (next_of m).0 ≡ Call (Send to addr len) → to < n → len ≤ MAX_BODY → status_of (emits to addr len m) ≡ s → status_of (move_alone own n m) ≡ s
send_told own n m to addr len s at place short is = told_at own n m (Call (Send to addr len)) s at (ap status_of (send_event own n m (next_of m).1 to addr len place short) ∙ is)

pub send_refused_told : (own n : ℕ) (m : State) (to addr len : ℕ) → (next_of m).0 ≡ Call (Send to addr len) → (to < n → MAX_BODY < len) → status_of (move_alone own n m) ≡ statuses.Ready
send_refused_told own n m to addr len at over = told_at own n m (Call (Send to addr len)) statuses.Ready at (ap status_of (send_refused own n m (next_of m).1 to addr len (nat_le n to) refl over))

pub output_told : (own n : ℕ) (m : State) (addr len : ℕ) (s : Status) → (next_of m).0 ≡ Call (Output addr len) → len ≤ MAX_BODY → status_of (emits n addr len m) ≡ s → status_of (move_alone own n m) ≡ s
output_told own n m addr len s at short is = told_at own n m (Call (Output addr len)) s at (ap status_of (output_event own n m (next_of m).1 addr len short) ∙ is)

pub output_refused_told : (own n : ℕ) (m : State) (addr len : ℕ) → (next_of m).0 ≡ Call (Output addr len) → MAX_BODY < len → status_of (move_alone own n m) ≡ statuses.Ready
output_refused_told own n m addr len at over = told_at own n m (Call (Output addr len)) statuses.Ready at (ap status_of (output_refused own n m (next_of m).1 addr len over))
