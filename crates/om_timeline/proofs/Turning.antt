-- The turns of a process are those of its machine alone, as long as fewer messages than have numbers were sent.
use Rattle.std.proofs.Common.{◌≡◌, ℕ, zero, suc, ◌+◌, ◌-◌, ◌<◌, ◌≤◌, List, [], ◌∷◌, ◌++◌, replicate, Some, None, refl, sym, ap, subst, ◌∙◌, add-one, arith, length-append, lit<}
use Rattle.std.specs.Prelude.{◌||◌, if◌then◌else◌, nat_le, nat_lt, slice_index}
use Rattle.std.proofs.lemmas.Bool.{lt-leb}
use Rattle.om_format.specs.declared.limits.TheConstants.{MAX_BODY}
use Rattle.om_format.specs.declared.queue.QueueEntry.{QueueEntry}
use Rattle.om_format.specs.Queues.{QueueRecord}
use Rattle.om_machine.specs.State.{State}
use Rattle.om_machine.specs.Step.{Steps, StepsOn}
use Rattle.om_machine.specs.derived.NextStep.{next_of}
use Rattle.om_machine.specs.declared.event.Event.{Event}
use Rattle.om_machine.specs.declared.event.Event.TheVariants.{Went, Call, Trap}
use Rattle.om_machine.specs.declared.event.EnvCall.TheVariants.{Exit, Send, Receive, Output, Who}
use Rattle.om_machine.proofs.Stepping.{steps-next}
use Rattle.om_process.specs.declared.limits.TheConstants.{LAST_NUMBER}
use Rattle.om_process.specs.Process.{Process, Program, Received, Move, Waits, Ends, Traps, Goes, Emits, delivered, emitted, empty_queue, made, moved, started}
use Rattle.om_process.specs.Parts.{IsTrimmed}
use Rattle.om_process.specs.Turns.{IsWaiting, Leads, Reaches, Turns, after_event, emits, next_move, next_turn, refuses}
use Rattle.om_process.proofs.Basics.{some_once, some_none}
use Rattle.om_process.proofs.Going.{counts_receive, counts_turn}
use Rattle.om_process.proofs.Parts.{made_same}
use Rattle.om_timeline.specs.Alone.{HasTurns, TakesAlone, machine_moved, move_alone, or_stands, received_alone, received_at, turn_alone, turns_alone}

-- ---- the machine alone
-- a step of the machine is a turn
goes_alone : (own n : ℕ) (m next : State) → Steps m Went next → turn_alone own n m ≡ Some next
unfolding next_move
goes_alone own n m next steps = ap (λ e. machine_moved (after_event own n m [] e.0 e.1)) (steps-next m Went next steps)

-- one turn more
pub one_more : (own n k : ℕ) (m : State) → turns_alone own n (suc k) m ≡ or_stands (turns_alone own n k m) (turn_alone own n (turns_alone own n k m))
one_more own n zero m = refl
one_more own n (suc k) m = one_more own n k (or_stands m (turn_alone own n m))

pub turned_more : (own n k : ℕ) (m mid next : State) → turns_alone own n k m ≡ mid → turn_alone own n mid ≡ Some next → turns_alone own n (suc k) m ≡ next
turned_more own n k m mid next turns turn =
    one_more own n k m ∙ ap (λ x. or_stands x (turn_alone own n x)) turns ∙ ap (or_stands mid) turn

pub joined : (own n j k : ℕ) (m : State) → turns_alone own n (j + k) m ≡ turns_alone own n k (turns_alone own n j m)
joined own n zero k m = let e : 0 + k ≡ k = omega arith in ap (λ i. turns_alone own n i m) e
joined own n (suc j) k m =
    let e : suc j + k ≡ suc (j + k) = omega arith in
    ap (λ i. turns_alone own n i m) e ∙ joined own n j k (or_stands m (turn_alone own n m))

-- a run of the machine is that many turns
pub ran_alone : (own n k : ℕ) (m next : State) → StepsOn k m next → turns_alone own n k m ≡ next
ran_alone own n zero m next same = same
ran_alone own n (suc k) m next steps =
    turned_more own n k m steps.0 next (ran_alone own n k m steps.0 steps.1) (goes_alone own n steps.0 next steps.2)

-- where there is no turn, it stands
pub stands_still : (own n k : ℕ) (m : State) → turn_alone own n m ≡ None → turns_alone own n k m ≡ m
stands_still own n zero m none = refl
stands_still own n (suc k) m none = ap (turns_alone own n k) (ap (or_stands m) none) ∙ stands_still own n k m none

-- so far, and on by the machine
pub gone_on : (own n j k : ℕ) (m mid next : State) → mid ≡ turns_alone own n j m → StepsOn k mid next → next ≡ turns_alone own n (j + k) m
gone_on own n j k m mid next gone steps =
    sym (ran_alone own n k mid next steps) ∙ ap (turns_alone own n k) gone ∙ sym (joined own n j k m)

-- and one turn more
pub turned_on : (own n j : ℕ) (m mid next : State) → mid ≡ turns_alone own n j m → turn_alone own n mid ≡ Some next → next ≡ turns_alone own n (j + 1) m
turned_on own n j m mid next gone turn =
    sym (turned_more own n j m mid next (sym gone) turn) ∙ ap (λ i. turns_alone own n i m) (sym (add-one j))

-- where it stands, it stands
pub stood_still : (own n j k : ℕ) (m mid : State) → mid ≡ turns_alone own n j m → turn_alone own n mid ≡ None → j ≤ k → mid ≡ turns_alone own n k m
stood_still own n j k m mid gone none within =
    let e : j + (k - j) ≡ k = omega (arith, within) in
    sym (stands_still own n (k - j) mid none) ∙ ap (turns_alone own n (k - j)) gone ∙ sym (joined own n j (k - j) m) ∙ ap (λ i. turns_alone own n i m) e

-- the rest of a run
pub rest_of : (own n done turns : ℕ) (m here next : State) → done ≤ turns → here ≡ turns_alone own n done m → next ≡ turns_alone own n (turns - done) here → next ≡ turns_alone own n turns m
rest_of own n done turns m here next within gone rest =
    let e : done + (turns - done) ≡ turns = omega (arith, within) in
    rest ∙ ap (turns_alone own n (turns - done)) gone ∙ sym (joined own n done (turns - done) m) ∙ ap (λ i. turns_alone own n i m) e

-- ---- turns that are there
takes_more : (own n k : ℕ) (m mid next : State) → TakesAlone own n k m → turns_alone own n k m ≡ mid → turn_alone own n mid ≡ Some next → TakesAlone own n (suc k) m
takes_more own n zero m mid next taken same turn = (next, ap (turn_alone own n) same ∙ turn, tt)
takes_more own n (suc k) m mid next taken same turn =
    let at : or_stands m (turn_alone own n m) ≡ taken.0 = ap (or_stands m) taken.1 in
    (taken.0, taken.1, takes_more own n k taken.0 mid next taken.2 (ap (turns_alone own n k) (sym at) ∙ same) turn)

takes_add : (own n j k : ℕ) (m : State) → TakesAlone own n j m → TakesAlone own n k (turns_alone own n j m) → TakesAlone own n (j + k) m
takes_add own n zero k m first more =
    let e : k ≡ 0 + k = omega arith in
    subst (λ i. TakesAlone own n i m) e more
takes_add own n (suc j) k m first more =
    let e : suc (j + k) ≡ suc j + k = omega arith in
    let at : or_stands m (turn_alone own n m) ≡ first.0 = ap (or_stands m) first.1 in
    subst (λ i. TakesAlone own n i m) e
    (first.0, first.1, takes_add own n j k first.0 first.2 (subst (λ x. TakesAlone own n k (turns_alone own n j x)) at more))

takes_ran : (own n k : ℕ) (m next : State) → StepsOn k m next → TakesAlone own n k m
takes_ran own n zero m next same = tt
takes_ran own n (suc k) m next steps =
    takes_more own n k m steps.0 next (takes_ran own n k m steps.0 steps.1) (ran_alone own n k m steps.0 steps.1) (goes_alone own n steps.0 next steps.2)

pub has_none : (own n : ℕ) (m : State) → HasTurns own n 0 m
has_none own n m = record { takes = tt }

-- so far, and on by the machine
pub has_ran : (own n j k : ℕ) (m mid next : State) → HasTurns own n j m → mid ≡ turns_alone own n j m → StepsOn k mid next → HasTurns own n (j + k) m
has_ran own n j k m mid next has gone steps =
    record { takes = takes_add own n j k m has.takes (subst (TakesAlone own n k) gone (takes_ran own n k mid next steps)) }

-- and one turn more
pub has_turn : (own n j : ℕ) (m mid next : State) → HasTurns own n j m → mid ≡ turns_alone own n j m → turn_alone own n mid ≡ Some next → HasTurns own n (j + 1) m
has_turn own n j m mid next has gone turn =
    record { takes = subst (λ i. TakesAlone own n i m) (sym (add-one j)) (takes_more own n j m mid next has.takes (sym gone) turn) }

-- and so many more
pub has_more : (own n j k : ℕ) (m mid : State) → HasTurns own n j m → mid ≡ turns_alone own n j m → HasTurns own n k mid → HasTurns own n (j + k) m
has_more own n j k m mid has gone more = record { takes = takes_add own n j k m has.takes (subst (TakesAlone own n k) gone more.takes) }

-- ---- the counts of a process do not matter
abbrev pub AreFew : List ℕ → Type 0
AreFew counts = (to : ℕ) → slice_index counts to < LAST_NUMBER

none_few : AreFew []
none_few to = lit< tt

same_event : (own n : ℕ) (m : State) (counts : List ℕ) (e : Event) (next : State) → AreFew counts → after_event own n m counts e next ≡ after_event own n m [] e next
same_event own n m counts Went next few = refl
same_event own n m counts (Trap cause) next few = refl
same_event own n m counts (Call (Exit code)) next few = refl
same_event own n m counts (Call (Send to addr len)) next few =
    ap (λ b. if nat_le n to || (nat_lt MAX_BODY len || b) then refuses m else emits to addr len m)
    (lt-leb LAST_NUMBER (slice_index counts to) (few to) ∙ sym (lt-leb LAST_NUMBER (slice_index [] to) (none_few to)))
same_event own n m counts (Call (Receive addr cap)) next few = refl
same_event own n m counts (Call (Output addr len)) next few = refl
same_event own n m counts (Call Who) next few = refl

pub same_move : (own n : ℕ) (m : State) (counts : List ℕ) → AreFew counts → next_move own n m counts ≡ move_alone own n m
unfolding next_move
same_move own n m counts few = same_event own n m counts (next_of m).0 (next_of m).1 few

moved_machine : (s t : Process) (move : Move) → moved s move ≡ Some t → machine_moved move ≡ Some t.machine
moved_machine s t Waits e = absurd (some_none t (sym e))
moved_machine s t (Ends code) e = absurd (some_none t (sym e))
moved_machine s t (Traps cause) e = absurd (some_none t (sym e))
moved_machine s t (Goes next) e = ap (λ (p : Process). Some p.machine) (some_once _ t e)
moved_machine s t (Emits place body next) e = ap (λ (p : Process). Some p.machine) (some_once _ t e)

turn_of : (own n : ℕ) (s t : Process) → AreFew (made s.queues) → next_turn own n s ≡ Some t → turn_alone own n s.machine ≡ Some t.machine
turn_of own n s t few turn =
    ap machine_moved (sym (same_move own n s.machine (made s.queues) few)) ∙ moved_machine s t (next_move own n s.machine (made s.queues)) turn

-- ---- no process sends more than it takes turns
abbrev pub IsCounted : Process → Type 0
IsCounted s = (place : ℕ) → slice_index (made s.queues) place ≤ s.machine.count

made_one : (place : ℕ) (e : QueueEntry) (qs : List QueueRecord) (at : ℕ) → slice_index (made (emitted place e qs)) at ≤ slice_index (made qs) at + 1
made_one place e [] at = omega arith
made_one zero e (q ∷ qs) zero = let more = length-append q.entries (e ∷ []) in omega (arith, more)
made_one zero e (q ∷ qs) (suc at) = omega arith
made_one (suc place) e (q ∷ qs) zero = omega arith
made_one (suc place) e (q ∷ qs) (suc at) = made_one place e qs at

made_moved : (s t : Process) (move : Move) (at : ℕ) → moved s move ≡ Some t → slice_index (made t.queues) at ≤ slice_index (made s.queues) at + 1
made_moved s t Waits at e = absurd (some_none t (sym e))
made_moved s t (Ends code) at e = absurd (some_none t (sym e))
made_moved s t (Traps cause) at e = absurd (some_none t (sym e))
made_moved s t (Goes next) at e =
    let same : t.queues ≡ s.queues = ap (λ (p : Process). p.queues) (sym (some_once _ t e)) in
    let count : slice_index (made t.queues) at ≡ slice_index (made s.queues) at = ap (λ qs. slice_index (made qs) at) same in
    omega (arith, count)
made_moved s t (Emits place body next) at e =
    let entry : QueueEntry = record { interval = s.interval; body = body } in
    let same : t.queues ≡ emitted place entry s.queues = ap (λ (p : Process). p.queues) (sym (some_once _ t e)) in
    let count : slice_index (made t.queues) at ≡ slice_index (made (emitted place entry s.queues)) at = ap (λ qs. slice_index (made qs) at) same in
    let one = made_one place entry s.queues at in
    omega (arith, count, one)

counted_turn : (own n : ℕ) (s t : Process) → next_turn own n s ≡ Some t → IsCounted s → IsCounted t
counted_turn own n s t turn counted place =
    let one = made_moved s t (next_move own n s.machine (made s.queues)) place turn in
    let before = counted place in
    let count = counts_turn own n s t turn in
    omega (arith, one, before, count)

counted_turns : (own n k : ℕ) (s t : Process) → Turns own n k s t → IsCounted s → IsCounted t
counted_turns own n zero s t same counted = subst IsCounted (sym same) counted
counted_turns own n (suc k) s t turns counted =
    counted_turns own n k turns.0 t turns.2 (counted_turn own n s turns.0 turns.1 counted)

counted_delivered : (own : ℕ) (s : Process) (r : Received) → IsCounted s → IsCounted (delivered own s r)
counted_delivered own s r counted place =
    let before = counted place in
    let count = counts_receive r.from r.body s.machine in
    omega (arith, before, count)

counted_leads : (own n : ℕ) (h : List Received) (s t : Process) → Leads own n h s t → IsCounted s → IsCounted t
counted_leads own n [] s t same counted = subst IsCounted (sym same) counted
counted_leads own n (r ∷ rs) s t leads counted =
    counted_leads own n rs (delivered own leads.1 r) t leads.4
    (counted_delivered own leads.1 r (counted_turns own n leads.0 s leads.1 leads.2 counted))

none_made : (n at : ℕ) → slice_index (made (replicate n empty_queue ++ empty_queue ∷ [])) at ≤ 0
none_made zero zero = omega arith
none_made zero (suc at) = omega arith
none_made (suc n) zero = omega arith
none_made (suc n) (suc at) = none_made n at

counted_started : (program : Program) (n : ℕ) → IsCounted (started program n)
counted_started program n place = let none = none_made n place in omega (arith, none)

pub counted_reaches : (program : Program) (own n : ℕ) (h : List Received) (t : Process) → Reaches program own n h t → IsCounted t
counted_reaches program own n h t reaches =
    let along = reaches.1 in
    counted_turns own n reaches.0 along.0 t along.2 (counted_leads own n h (started program n) along.0 along.1 (counted_started program n))

pub counted_part : (whole part : Process) → IsTrimmed whole part → IsCounted whole → IsCounted part
counted_part whole part keeps counted place =
    let before = counted place in
    let same : slice_index (made part.queues) place ≡ slice_index (made whole.queues) place = ap (λ counts. slice_index counts place) (made_same whole.queues part.queues keeps.queues) in
    let count : part.machine.count ≡ whole.machine.count = ap (λ (p : Process). p.machine.count) keeps.same in
    omega (arith, before, same, count)

pub few_counted : (s : Process) → IsCounted s → s.machine.count < LAST_NUMBER → AreFew (made s.queues)
few_counted s counted below to = let at = counted to in omega (arith, at, below)

-- so many turns of a process that was counted are those of its machine
pub turns_of : (own n k : ℕ) (s t : Process) → Turns own n k s t → IsCounted s → s.machine.count + k ≤ LAST_NUMBER → turns_alone own n k s.machine ≡ t.machine
turns_of own n zero s t same counted room = ap (λ (p : Process). p.machine) (sym same)
turns_of own n (suc k) s t turns counted room =
    let mid = turns.0 in
    let count = counts_turn own n s mid turns.1 in
    let below : s.machine.count < LAST_NUMBER = omega (arith, room) in
    let first = turn_of own n s mid (few_counted s counted below) turns.1 in
    ap (turns_alone own n k) (ap (or_stands s.machine) first)
    ∙ turns_of own n k mid t turns.2 (counted_turn own n s mid turns.1 counted) (omega (arith, count, room))

-- what is received where the process waits
pub received_of : (own n from : ℕ) (body : List ℕ) (s : Process) → AreFew (made s.queues) → IsWaiting own n s → received_alone own n from body s.machine ≡ received_at Waits from body s.machine
received_of own n from body s few waits =
    ap (λ move. received_at move from body s.machine) (sym (same_move own n s.machine (made s.queues) few) ∙ waits)
