-- What may follow where processes are at rest.
use Rattle.std.proofs.Common.{◌≡◌, ◌⊎◌, inl, inr, ℕ, zero, suc, ◌+◌, ◌≤◌, ◌<◌, List, [], ◌∷◌, length, Some, refl, sym, ap, subst, ◌∙◌, arith}
use Rattle.std.specs.Prelude.{slice_get, slice_index, take}
use Rattle.std.proofs.lemmas.List.{append-nil, take_all}
use Rattle.om_format.specs.declared.queue.QueueEntry.{QueueEntry}
use Rattle.om_format.specs.Queues.{QueueRecord}
use Rattle.om_process.specs.Claims.{AtInterval, HasEntry, LeadsToWait, Makes}
use Rattle.om_process.specs.Core.{CoreState, IsEnd, cluster_size, move_of, status_of}
use Rattle.om_process.specs.Dependencies.{count_from}
use Rattle.om_process.specs.Process.{Move, Waits, Ends, Traps, Goes, Emits, Process, Program, Received, made}
use Rattle.om_process.specs.Turns.{Reaches, next_move}
use Rattle.om_process.specs.declared.status.Status.{Status}
use Rattle.om_process.specs.declared.status.Status.TheVariants.{Waiting}
use Rattle.om_process.proofs.Making.{made_at, part_has}
use Rattle.om_process.proofs.Vectors.{places_at}
use Rattle.om_world.proofs.Released.{made_stays, split_at}
use Rattle.om_manager.specs.Outputs.{HeldOutput}
use Rattle.om_world.specs.Holds.{StandsAt}
use Rattle.om_world.specs.Live.{Legal, MayFollow, program_at, received}
use Rattle.om_world.specs.World.{WorldState}
use Rattle.om_world.specs.declared.entry.Entry.{Entry}
use Rattle.om_check.specs.FailureFree.{IsAtRest, IsRunBy, IsStuckBy, RestsWith}
use Rattle.om_check.specs.Orders.{IsOver, IsSameRun}
use Rattle.om_check.specs.Whole.{IsUnderWay, KeepsReceived}
use Rattle.om_check.specs.declared.walk.Choice.{Choice}
use Rattle.om_check.specs.steps.Playing.{CanReceive, HasMoreFor, IsGoingOn, IsWaitingFor}
use Rattle.om_check.specs.steps.Walks.{IsAtEnd, IsExcluded, IsPassed}
use Rattle.om_check.proofs.Ending.{FromZero, below, core_once, end_has, program_is, same_next, stands_at, zero_along}
use Rattle.om_check.proofs.OneRun.{one_rest, there}
use Rattle.om_check.proofs.Orders.{follows_on}

-- a process that waits is about to
waits_so : (move : Move) → status_of move ≡ Waiting → move ≡ Waits
waits_so Waits is = refl
waits_so (Ends code) is = cc
waits_so (Traps cause) is = cc
waits_so (Goes next) is = cc
waits_so (Emits place body next) is = cc

-- what a process at rest has made along its first receipts, it has made where it stands
whole_has : (program : Program) (own n p number x : ℕ) (h : List Received) (whole : Process) (e : QueueEntry) → Reaches program own n h whole
    → IsAtRest (status_of (next_move own n whole.machine (made whole.queues))) → AtInterval h x (Makes program own n p number e)
    → HasEntry whole.queues p number e
whole_has program own n p number x h whole e reaches rest makes = by (less_or x (length h))
  where
    less_or : (a b : ℕ) → (a < b) ⊎ (b ≤ a)
    less_or a b = grind arith

    by : (x < length h) ⊎ (length h ≤ x) → HasEntry whole.queues p number e
    by (inl lt) =
        let parts = split_at x h lt in
        made_stays program own n p number (take x h) parts.1 parts.0 e whole makes.1 (subst (λ g. Reaches program own n g whole) parts.2 reaches)
    by (inr le) =
        let all : take x h ≡ h = take_all x h le in
        let made_there = subst (Makes program own n p number e) all makes.1 in
        end_has program own n p number h made_there.0 whole e made_there.1 reaches rest made_there.2

-- where a process at rest stands
rests_whole : (programs : List Program) (w : WorldState) (q : ℕ) (d : CoreState) (way : IsUnderWay programs w) (lt : q < length programs)
    (core : slice_get w.cores q ≡ Some (Some d)) → d.own ≡ q → cluster_size d.now ≡ length w.programs → IsAtRest (status_of (move_of d))
    → IsAtRest (status_of (next_move q (length w.programs) (stands_at programs w q d way lt core).whole.machine (made (stands_at programs w q d way lt core).whole.queues)))
rests_whole programs w q d way lt core own size rest =
    let stands = stands_at programs w q d way lt core in
    subst (λ move. IsAtRest (status_of move)) (same_next d q (length w.programs) stands.whole own size stands.keeps) rest

-- who may receive waits
receiver_waits : (programs : List Program) (w : WorldState) (e : Entry) (c : CoreState) → IsUnderWay programs w → MayFollow w.programs w.live e
    → slice_get w.cores e.to ≡ Some (Some c) → c.own ≡ e.to → cluster_size c.now ≡ length w.programs → IsAtRest (status_of (move_of c))
    → status_of (move_of c) ≡ Waiting
receiver_waits programs w e c way may core own size rest =
    let lt : e.to < length programs = subst (λ ps. e.to < length ps) way.these may.to in
    let stands = stands_at programs w e.to c way lt core in
    let v = may.waits in
    let over = rests_whole programs w e.to c way lt core own size rest in
    let waits : IsAtRest (status_of (next_move e.to (length w.programs) v.0.machine (made v.0.queues))) = subst (λ move. IsAtRest (status_of move)) (sym v.2) tt in
    let same : v.0 ≡ stands.whole = one_rest (program_at w.programs e.to) e.to (length w.programs) (received e.to w.live) v.0 stands.whole v.1 stands.reaches waits over in
    ap status_of (same_next c e.to (length w.programs) stands.whole own size stands.keeps
    ∙ sym (ap (λ (s : Process). next_move e.to (length w.programs) s.machine (made s.queues)) same) ∙ v.2)

-- how many messages a process got from another
got_is : (programs : List Program) (w : WorldState) (p q : ℕ) (c : CoreState) → IsUnderWay programs w → p < length programs → q < length programs
    → slice_get w.cores p ≡ Some (Some c) → slice_index c.now.got q ≡ count_from q (received p w.live)
got_is programs w p q c way p_lt q_lt core =
    let stands = stands_at programs w p c way p_lt core in
    ap (λ got. slice_index got q) stands.row.1
    ∙ places_at (length w.programs) q (λ j. count_from j (received p w.live)) (subst (λ n. q < n) (sym (ap length way.these)) q_lt)

-- ---- nothing can be received but what is excluded
pub at_end : (programs : List Program) (w : WorldState) (walk : List Choice) (n : ℕ) → IsUnderWay programs w → n ≡ length w.programs
    → ((p : ℕ) → p < n → IsPassed w walk n p) → IsAtEnd w walk
at_end programs w walk n way all passed e may = by sender.3
  where
    to_lt : e.to < length programs
    to_lt = subst (λ ps. e.to < length ps) way.these may.to

    from_lt : e.from < length programs
    from_lt = subst (λ ps. e.from < length ps) way.these may.from

    here : IsPassed w walk n e.to
    here = passed e.to (subst (λ k. e.to < k) (sym all) may.to)

    there : IsPassed w walk n e.from
    there = passed e.from (subst (λ k. e.from < k) (sym all) may.from)

    c : CoreState
    c = here.0

    waits : status_of (move_of c) ≡ Waiting
    waits = receiver_waits programs w e c way may here.1 here.2 here.3 here.4

    sender : (d : CoreState) × (slice_get w.cores e.from ≡ Some (Some d)) × (d.own ≡ e.from) × (KeepsReceived d c ⊎ IsExcluded walk (record { from = e.from; to = c.own }))
    sender = here.5 waits e.from (subst (λ k. e.from < k) (sym all) may.from)

    d : CoreState
    d = sender.0

    is : there.0 ≡ d
    is = core_once (sym there.1 ∙ sender.1)

    by : KeepsReceived d c ⊎ IsExcluded walk (record { from = e.from; to = c.own }) → IsExcluded walk (record { from = e.from; to = e.to })
    by (inr ex) = subst (λ to. IsExcluded walk (record { from = e.from; to = to })) here.2 ex
    by (inl keeps) = absurd (omega (arith, less, same))
      where
        stands : StandsAt w e.from d
        stands = stands_at programs w e.from d way from_lt sender.1

        entry : QueueEntry
        entry = record { interval = e.interval; body = e.body }

        rest : IsAtRest (status_of (next_move e.from (length w.programs) stands.whole.machine (made stands.whole.queues)))
        rest = rests_whole programs w e.from d way from_lt sender.1 sender.2
            (subst (λ (x : CoreState). cluster_size x.now ≡ length w.programs) is there.3)
            (subst (λ (x : CoreState). IsAtRest (status_of (move_of x))) is there.4)

        whole : HasEntry stands.whole.queues e.to e.ssn entry
        whole = whole_has (program_at w.programs e.from) e.from (length w.programs) e.to e.ssn e.interval (received e.from w.live) stands.whole entry
            stands.reaches rest may.said

        count : count_from e.from (received e.to w.live) ≤ e.ssn
        count = let at : e.ssn ≡ count_from e.from (received e.to w.live) = may.number in omega arith

        kept : HasEntry d.now.queues e.to e.ssn entry
        kept = stands.undelivered e.to e.ssn entry may.to count whole

        less : e.ssn < count_from e.from (received e.to w.live)
        less = subst (λ k. e.ssn < k) (got_is programs w e.to e.from c way to_lt from_lt here.1)
            (subst (λ q. e.ssn < slice_index c.now.got q) sender.2
            (keeps e.ssn entry (subst (λ p. HasEntry d.now.queues p e.ssn entry) (sym here.2) kept)))

        same : e.ssn ≡ count_from e.from (received e.to w.live)
        same = may.number

-- ---- something can be received
inside : (es : List QueueEntry) (i : ℕ) (e : QueueEntry) → slice_get es i ≡ Some e → i < length es
inside es i e at = below es i e at

at_place : (es : List QueueEntry) (i : ℕ) → i < length es → (e : QueueEntry) × (slice_get es i ≡ Some e)
at_place [] i lt = absurd (omega (arith, lt))
at_place (x ∷ es) zero lt = (x, refl)
at_place (x ∷ es) (suc i) lt = at_place es i (omega (arith, lt))

-- a queue from 0 on has each entry before one that it has
entry_before : (qs : List QueueRecord) (place i j : ℕ) (e : QueueEntry) → FromZero qs → i ≤ j → HasEntry qs place j e → (d : QueueEntry) × HasEntry qs place i d
entry_before [] place i j e z le h = absurd h
entry_before (q ∷ qs) zero i j e z le h =
    let lt = inside q.entries h.0 e h.2 in
    let at : j ≡ q.first + h.0 = h.1 in
    let none : q.first ≡ 0 = z.0 in
    let d = at_place q.entries i (omega arith) in
    (d.0, (i, omega arith, d.1))
entry_before (q ∷ qs) (suc place) i j e z le h = entry_before qs place i j e z.1 le h

pub not_over : (programs : List Program) (w : WorldState) (n : ℕ) → IsUnderWay programs w → n ≡ length w.programs → IsGoingOn w n
    → IsOver programs w.live → ⊥
not_over programs w n way all going over = over.1 next (subst (λ ps. MayFollow ps w.live next) way.these may)
  where
    p : ℕ
    p = going.0

    here : CanReceive w n p
    here = going.2

    c : CoreState
    c = here.0

    more : IsWaitingFor w c n
    more = here.5

    q : ℕ
    q = more.0

    d : CoreState
    d = more.2

    has : HasMoreFor d c
    has = more.5

    p_lt : p < length programs
    p_lt = subst (λ k. p < k) (all ∙ ap length way.these) going.1

    q_lt : q < length programs
    q_lt = subst (λ k. q < k) (all ∙ ap length way.these) more.1

    mine : StandsAt w p c
    mine = stands_at programs w p c way p_lt here.1

    theirs : StandsAt w q d
    theirs = stands_at programs w q d way q_lt more.3

    count : ℕ
    count = count_from q (received p w.live)

    got : slice_index c.now.got d.own ≡ count
    got = ap (slice_index c.now.got) more.4 ∙ got_is programs w p q c way p_lt q_lt here.1

    le : count ≤ has.0
    le = let at : slice_index c.now.got d.own ≡ count = got in let ge : slice_index c.now.got d.own ≤ has.0 = has.3 in omega arith

    kept : HasEntry theirs.whole.queues p has.0 has.1
    kept = part_has theirs.whole.queues d.now.queues p has.0 has.1 theirs.keeps.queues (subst (λ k. HasEntry d.now.queues k has.0 has.1) here.2 has.2)

    first : (e : QueueEntry) × HasEntry theirs.whole.queues p count e
    first = entry_before theirs.whole.queues p count has.0 has.1
        (zero_along (program_at w.programs q) q (length w.programs) (received q w.live) theirs.whole theirs.reaches) le kept

    next : Entry
    next = record { to = p; from = q; ssn = count; interval = first.0.interval; body = first.0.body }

    may : MayFollow w.programs w.live next
    may = record {
      to = subst (λ k. p < k) all going.1;
      from = subst (λ k. q < k) all more.1;
      number = refl;
      said = made_at (program_at w.programs q) q (length w.programs) p count (received q w.live) first.0 (theirs.whole, theirs.reaches, first.1);
      waits = (
        mine.whole,
        mine.reaches,
        sym (same_next c p (length w.programs) mine.whole here.2 here.3 mine.keeps) ∙ waits_so (move_of c) here.4,
      );
    }

-- ---- the same run
pub over_same : (programs : List Program) (run live : List Entry) → IsOver programs run → Legal programs live → IsSameRun run live → IsOver programs live
over_same programs run live over legal same =
    (legal, λ e may. over.1 e (follows_on programs live run e (same e.to) ([], same e.from ∙ sym (append-nil (received e.from live))) may))

-- ---- a run at its end is over
rests_at : (programs : List Program) (live : List Entry) (p : ℕ) (program : Program) (out : List HeldOutput) (status : Status) (e : Entry)
    → RestsWith program p (length programs) (received p live) out status → program_at programs p ≡ program → e.to ≡ p → MayFollow programs live e
    → status ≡ Waiting
rests_at programs live p program out status e rests mine to may =
    rests.status_is ∙ ap (λ (s : Process). status_of (next_move p (length programs) s.machine (made s.queues))) (sym same) ∙ ap status_of waits.2
  where
    waits : LeadsToWait program p (length programs) (received p live)
    waits = subst (λ q. LeadsToWait q p (length programs) (received p live)) mine
        (subst (λ q. LeadsToWait (program_at programs q) q (length programs) (received q live)) to may.waits)

    same : waits.0 ≡ rests.end
    same = one_rest program p (length programs) (received p live) waits.0 rests.end waits.1 rests.reaches
        (subst (λ move. IsAtRest (status_of move)) (sym waits.2) tt) (subst IsAtRest rests.status_is rests.at_rest)

pub whole_over : (programs : List Program) (live : List Entry) (outputs : List (List HeldOutput)) (statuses : List Status)
    → IsRunBy programs live outputs statuses → IsOver programs live
whole_over programs live outputs statuses run = (run.rest.legal, λ e may. none e may)
  where
    none : (e : Entry) → MayFollow programs live e → ⊥
    none e may =
        let program = there programs e.to may.to in
        let out = there outputs e.to (subst (λ k. e.to < k) (sym run.rest.processes) may.to) in
        let status = there statuses e.to (subst (λ k. e.to < k) (sym run.rest.stands) may.to) in
        let comes = run.rest.each e.to program.0 out.0 status.0 program.1 out.1 status.1 in
        let is : status.0 ≡ Waiting = rests_at programs live e.to program.0 out.0 status.0 e comes (program_is programs e.to program.0 program.1) refl may in
        subst IsEnd is (run.ended e.to status.0 status.1)

pub stuck_over : (programs : List Program) (live : List Entry) (outputs : List (List HeldOutput)) (statuses : List Status)
    → IsStuckBy programs live outputs statuses → IsOver programs live
stuck_over programs live outputs statuses run = (run.rest.legal, λ e may. none e may)
  where
    none : (e : Entry) → MayFollow programs live e → ⊥
    none e may =
        let program = there programs e.to may.to in
        let out = there outputs e.to (subst (λ k. e.to < k) (sym run.rest.processes) may.to) in
        let status = there statuses e.to (subst (λ k. e.to < k) (sym run.rest.stands) may.to) in
        let rests = run.rest.each e.to program.0 out.0 status.0 program.1 out.1 status.1 in
        let is : status.0 ≡ Waiting = rests_at programs live e.to program.0 out.0 status.0 e rests (program_is programs e.to program.0 program.1) refl may in
        let sender = there programs e.from may.from in
        let sent = there outputs e.from (subst (λ k. e.from < k) (sym run.rest.processes) may.from) in
        let stands = there statuses e.from (subst (λ k. e.from < k) (sym run.rest.stands) may.from) in
        let theirs = run.rest.each e.from sender.0 sent.0 stands.0 sender.1 sent.1 stands.1 in
        let mine : program_at programs e.from ≡ sender.0 = program_is programs e.from sender.0 sender.1 in
        let reaches : Reaches (program_at programs e.from) e.from (length programs) (received e.from live) theirs.end =
        subst (λ q. Reaches q e.from (length programs) (received e.from live) theirs.end) (sym mine) theirs.reaches in
        let whole : HasEntry theirs.end.queues e.to e.ssn (record { interval = e.interval; body = e.body }) =
        whole_has (program_at programs e.from) e.from (length programs) e.to e.ssn e.interval (received e.from live) theirs.end
        (record { interval = e.interval; body = e.body }) reaches (subst IsAtRest theirs.status_is theirs.at_rest) may.said in
        let less : e.ssn < count_from e.from (received e.to live) =
        run.waits e.to (subst (λ s. slice_get statuses e.to ≡ Some s) is status.1) e.from e.ssn theirs.end
        (record { interval = e.interval; body = e.body }) may.from reaches whole in
        let number : e.ssn ≡ count_from e.from (received e.to live) = may.number in
        absurd (omega (arith, less, number))
