-- Runs of the machine are turns of the process, and turns count.
use Rattle.std.proofs.Common.{◌≡◌, ℕ, zero, suc, ◌+◌, List, Bool, true, false, Option, Some, None, refl, sym, ap, subst, ◌∙◌, arith}
use Rattle.std.specs.Prelude.{if◌then◌else◌}
use Rattle.std.specs.Option.{option_map_or}
use Rattle.om_machine.specs.State.{State, moved_to, put, written}
use Rattle.om_machine.specs.Step.{Steps, StepsOn}
use Rattle.om_machine.specs.derived.NextStep.{next_of}
use Rattle.om_machine.specs.Finishing.{finished_word, finished_who, finished_receive}
use Rattle.om_machine.specs.declared.event.Event.{Event}
use Rattle.om_machine.specs.declared.event.Event.TheVariants.{Went, Call, Trap}
use Rattle.om_machine.specs.declared.event.EnvCall.TheVariants.{Exit, Send, Receive, Output, Who}
use Rattle.om_machine.proofs.Stepping.{steps-next}
use Rattle.om_machine.proofs.Stops.{counts_step}
use Rattle.om_machine.specs.declared.event.Cause.{Cause}
use Rattle.om_process.specs.declared.limits.TheConstants.{REFUSED}
use Rattle.om_process.specs.Process.{Process, Move, Waits, Ends, Traps, Goes, Emits, made, moved}
use Rattle.om_process.specs.steps.Pieces.{with_machine}
use Rattle.om_process.specs.Turns.{next_move, next_turn, after_event, emits, refuses, is_refused_send, refused_sends, Turns}
use Rattle.om_process.proofs.Basics.{some_once, some_none}

step_turn : (own n : ℕ) (p : Process) (m : State) → Steps p.machine Went m → next_turn own n p ≡ Some (with_machine p m)
unfolding next_move
step_turn own n p m steps = ap (λ e. moved p (after_event own n p.machine (made p.queues) e.0 e.1)) (steps-next p.machine Went m steps)

pub turns_more : (own n k : ℕ) (s m t : Process) → Turns own n k s m → next_turn own n m ≡ Some t → Turns own n (suc k) s t
turns_more own n zero s m t same next = (t, ap (next_turn own n) (sym same) ∙ next, refl)
turns_more own n (suc k) s m t turns next = (turns.0, turns.1, turns_more own n k turns.0 m t turns.2 next)

pub turns_add : (own n j k : ℕ) (s m t : Process) → Turns own n j s m → Turns own n k m t → Turns own n (j + k) s t
turns_add own n zero k s m t first more =
    let e : k ≡ 0 + k = omega arith in
    subst (λ i. Turns own n i s t) e (subst (λ x. Turns own n k x t) first more)
turns_add own n (suc j) k s m t first more =
    let e : suc (j + k) ≡ suc j + k = omega arith in
    subst (λ i. Turns own n i s t) e (first.0, first.1, turns_add own n j k first.0 m t first.2 more)

-- a run of the machine is that many turns
pub goes_turns : (own n k : ℕ) (p : Process) (m : State) → StepsOn k p.machine m → Turns own n k p (with_machine p m)
goes_turns own n zero p m same = ap (with_machine p) (sym same)
goes_turns own n (suc k) p m goes =
    turns_more own n k p (with_machine p goes.0) (with_machine p m) (goes_turns own n k p goes.0 goes.1) (step_turn own n (with_machine p goes.0) m goes.2)

-- ---- each turn counts one
pub counts_word : (v : ℕ) (m : State) → (finished_word v m).count ≡ m.count + 1
unfolding finished_word put moved_to
counts_word v m = refl

pub counts_who : (own n : ℕ) (m : State) → (finished_who own n m).count ≡ m.count + 1
unfolding finished_who put moved_to
counts_who own n m = refl

pub counts_receive : (from : ℕ) (body : List ℕ) (m : State) → (finished_receive from body m).count ≡ m.count + 1
unfolding finished_receive put moved_to written
counts_receive from body m = refl

-- the move counts one, where there is one
Counts : State → Move → Type 0
Counts m (Goes next) = next.count ≡ m.count + 1
Counts m (Emits place body next) = next.count ≡ m.count + 1
Counts m _ = Unit {0}

counts_if : (m : State) (test : Bool) (a b : Move) → Counts m a → Counts m b → Counts m (if test then a else b)
counts_if m true a b x y = x
counts_if m false a b x y = y

counts_waits : (m : State) → Counts m Waits
unfolding Counts
counts_waits m = tt

counts_ends : (m : State) (code : ℕ) → Counts m (Ends code)
unfolding Counts
counts_ends m code = tt

counts_traps : (m : State) (cause : Cause) → Counts m (Traps cause)
unfolding Counts
counts_traps m cause = tt

counts_goes : (m next : State) → next.count ≡ m.count + 1 → Counts m (Goes next)
unfolding Counts
counts_goes m next one = one

counts_emits : (place addr len : ℕ) (body : List ℕ) (m : State) → Counts m (Emits place body (finished_word 0 m))
unfolding Counts
counts_emits place addr len body m = counts_word 0 m

counts_buffer : (place addr len : ℕ) (m : State) → Counts m (emits place addr len m)
counts_buffer place addr len m = counts_if m _ _ _ (counts_emits place addr len _ m) (counts_traps m _)

counts_refuses : (m : State) → Counts m (refuses m)
counts_refuses m = counts_goes m _ (counts_word REFUSED m)

counts_event : (own n : ℕ) (m : State) (counts : List ℕ) (e : Event) (next : State) → (e ≡ Went → next.count ≡ m.count + 1) → Counts m (after_event own n m counts e next)
counts_event own n m counts Went next went = counts_goes m next (went refl)
counts_event own n m counts (Trap cause) next went = counts_traps m cause
counts_event own n m counts (Call (Exit code)) next went = counts_ends m code
counts_event own n m counts (Call (Send to addr len)) next went = counts_if m _ _ _ (counts_refuses m) (counts_buffer to addr len m)
counts_event own n m counts (Call (Receive addr cap)) next went = counts_if m _ _ _ (counts_waits m) (counts_traps m _)
counts_event own n m counts (Call (Output addr len)) next went = counts_if m _ _ _ (counts_refuses m) (counts_buffer n addr len m)
counts_event own n m counts (Call Who) next went = counts_goes m _ (counts_who own n m)

counts_move : (own n : ℕ) (m : State) (counts : List ℕ) → Counts m (next_move own n m counts)
unfolding next_move
counts_move own n m counts = counts_event own n m counts (next_of m).0 (next_of m).1 (λ went. counts_step m (next_of m).0 (next_of m).1 refl went)

counts_moved : (s t : Process) (move : Move) → Counts s.machine move → moved s move ≡ Some t → t.machine.count ≡ s.machine.count + 1
unfolding Counts
counts_moved s t Waits counts e = absurd (some_none t (sym e))
counts_moved s t (Ends code) counts e = absurd (some_none t (sym e))
counts_moved s t (Traps cause) counts e = absurd (some_none t (sym e))
counts_moved s t (Goes next) counts e = ap (λ (p : Process). p.machine.count) (sym (some_once _ t e)) ∙ counts
counts_moved s t (Emits place body next) counts e = ap (λ (p : Process). p.machine.count) (sym (some_once _ t e)) ∙ counts

pub counts_turn : (own n : ℕ) (s t : Process) → next_turn own n s ≡ Some t → t.machine.count ≡ s.machine.count + 1
counts_turn own n s t e = counts_moved s t (next_move own n s.machine (made s.queues)) (counts_move own n s.machine (made s.queues)) e

pub counts_turns : (own n k : ℕ) (s t : Process) → Turns own n k s t → t.machine.count ≡ s.machine.count + k
counts_turns own n zero s t same = let e : t.machine.count ≡ s.machine.count = ap (λ (p : Process). p.machine.count) same in omega arith
counts_turns own n (suc k) s t turns =
    let e : turns.0.machine.count ≡ s.machine.count + 1 = counts_turn own n s turns.0 turns.1 in
    let f : t.machine.count ≡ turns.0.machine.count + k = counts_turns own n k turns.0 t turns.2 in
    omega arith

-- ---- turns leave the interval, the vector and the numbers got as they were
-- all but the machine and the queues is the other's
abbrev pub Stays : Process → Process → Type 0
Stays s t = t ≡ record { machine = t.machine; interval = s.interval; vec = s.vec; got = s.got; queues = t.queues }

pub stays_moved : (s t : Process) (move : Move) → moved s move ≡ Some t → Stays s t
stays_moved s t Waits e = absurd (some_none t (sym e))
stays_moved s t (Ends code) e = absurd (some_none t (sym e))
stays_moved s t (Traps cause) e = absurd (some_none t (sym e))
stays_moved s t (Goes next) e = subst (Stays s) (some_once _ t e) refl
stays_moved s t (Emits place body next) e = subst (Stays s) (some_once _ t e) refl

pub stays_turns : (own n k : ℕ) (s t : Process) → Turns own n k s t → Stays s t
stays_turns own n zero s t same = subst (Stays s) (sym same) refl
stays_turns own n (suc k) s t turns =
    let first = stays_moved s turns.0 (next_move own n s.machine (made s.queues)) turns.1 in
    let rest = stays_turns own n k turns.0 t turns.2 in
    rest ∙ ap (λ (p : Process). record { machine = t.machine; interval = p.interval; vec = p.vec; got = p.got; queues = t.queues }) first

-- ---- sends that are refused
refused_none : (own n : ℕ) (next : Option Process) → option_map_or (refused_sends own n 0) next 0 ≡ 0
refused_none own n None = refl
refused_none own n (Some p) = refl

-- those of one turn
pub refused_one : (own n : ℕ) (p : Process) → refused_sends own n 1 p ≡ (if is_refused_send n (made p.queues) (next_of p.machine).0 then 1 else 0)
refused_one own n p =
    let none : option_map_or (refused_sends own n 0) (next_turn own n p) 0 ≡ 0 = refused_none own n (next_turn own n p) in
    omega arith

-- those of turns, and then of more
pub refused_add : (own n j k : ℕ) (s t : Process) → Turns own n j s t → refused_sends own n (j + k) s ≡ refused_sends own n j s + refused_sends own n k t
refused_add own n zero k s t same =
    let e : 0 + k ≡ k = omega arith in
    let first : refused_sends own n (0 + k) s ≡ refused_sends own n k s = ap (λ i. refused_sends own n i s) e in
    let next : refused_sends own n k s ≡ refused_sends own n k t = ap (refused_sends own n k) (sym same) in
    let none : refused_sends own n zero s ≡ 0 = refl in
    omega arith
refused_add own n (suc j) k s t turns =
    let one : ℕ = if is_refused_send n (made s.queues) (next_of s.machine).0 then 1 else 0 in
    let e : suc j + k ≡ suc (j + k) = omega arith in
    let all : refused_sends own n (suc j + k) s ≡ one + option_map_or (refused_sends own n (j + k)) (next_turn own n s) 0 = ap (λ i. refused_sends own n i s) e in
    let some : refused_sends own n (suc j) s ≡ one + option_map_or (refused_sends own n j) (next_turn own n s) 0 = refl in
    let first : option_map_or (refused_sends own n (j + k)) (next_turn own n s) 0 ≡ refused_sends own n (j + k) turns.0 = ap (λ o. option_map_or (refused_sends own n (j + k)) o 0) turns.1 in
    let next : option_map_or (refused_sends own n j) (next_turn own n s) 0 ≡ refused_sends own n j turns.0 = ap (λ o. option_map_or (refused_sends own n j) o 0) turns.1 in
    let more : refused_sends own n (j + k) turns.0 ≡ refused_sends own n j turns.0 + refused_sends own n k t = refused_add own n j k turns.0 t turns.2 in
    omega arith

-- the machine alone refuses none
pub goes_refuse : (own n k : ℕ) (p : Process) (m : State) → StepsOn k p.machine m → refused_sends own n k p ≡ 0
goes_refuse own n zero p m same = refl
goes_refuse own n (suc k) p m goes =
    let before : refused_sends own n k p ≡ 0 = goes_refuse own n k p goes.0 goes.1 in
    let q = with_machine p goes.0 in
    let last : refused_sends own n 1 q ≡ 0 = refused_one own n q ∙ ap (λ e. if is_refused_send n (made p.queues) e.0 then 1 else 0) (steps-next goes.0 Went m goes.2) in
    let all : refused_sends own n (k + 1) p ≡ refused_sends own n k p + refused_sends own n 1 q = refused_add own n k 1 p q (goes_turns own n k p goes.0 goes.1) in
    let e : suc k ≡ k + 1 = omega arith in
    ap (λ i. refused_sends own n i p) e ∙ (omega arith)
