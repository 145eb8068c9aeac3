-- A process that is at rest, all of whose outputs are released, has put out exactly those.
use Rattle.std.proofs.Common.{◌≡◌, ◌⊎◌, inl, inr, ℕ, zero, suc, ◌+◌, ◌≤◌, ◌<◌, List, [], ◌∷◌, ◌++◌, length, map, replicate, Some, refl, sym, ap, subst, ◌∙◌, arith, length-append}
use Rattle.std.specs.Prelude.{slice_get}
use Rattle.om_format.specs.declared.queue.QueueEntry.{QueueEntry}
use Rattle.om_format.specs.Queues.{QueueRecord, queue_end}
use Rattle.om_process.specs.Claims.{HasEntry}
use Rattle.om_process.specs.Core.{CoreState, IsEnd, cluster_size, move_of, status_of}
use Rattle.om_process.specs.Kept.{queue_at}
use Rattle.om_process.specs.Parts.{Grow, IsTrimmed, IsTrimmedQueue}
use Rattle.om_process.specs.steps.Pieces.{KeepQueues}
use Rattle.om_process.specs.Process.{Process, Program, Received, Move, Waits, Ends, Traps, Goes, Emits, empty_queue, made, moved, started}
use Rattle.om_process.specs.Turns.{Reaches, Turns, next_move}
use Rattle.om_process.specs.declared.status.Status.{Status}
use Rattle.om_process.specs.declared.status.Status.TheVariants.{Ready, Waiting, Ended, Trapped}
use Rattle.om_process.proofs.Making.{entry_stays}
use Rattle.om_process.proofs.Parts.{same_move}
use Rattle.om_process.proofs.Runs.{leads_grow, leads_once, turns_between, turns_grow}
use Rattle.om_manager.specs.Outputs.{HeldOutput}
use Rattle.om_manager.specs.State.{released_by}
use Rattle.om_world.specs.Changes.{made_by}
use Rattle.om_world.specs.Holds.{StandsAt}
use Rattle.om_world.specs.Live.{Legal, program_at, received}
use Rattle.om_world.specs.World.{WorldState, output_entry}
use Rattle.om_world.specs.declared.process_state.ProcessState.{ProcessState}
use Rattle.om_check.specs.FailureFree.{IsAtRest, IsRunBy, RestsWith}
use Rattle.om_check.specs.Whole.{AreReleasedIn, AreStatusesOf, IsDone, IsUnderWay, IsWhole}

-- ---- queues from 0 on
abbrev pub FromZero : List QueueRecord → Type 0
FromZero [] = Unit {0}
FromZero (q ∷ qs) = (q.first ≡ 0) × FromZero qs

zero_started : (n : ℕ) → FromZero (replicate n empty_queue ++ empty_queue ∷ [])
zero_started zero = (refl, tt)
zero_started (suc n) = (refl, zero_started n)

zero_grown : (x : ℕ) (ps qs : List QueueRecord) → Grow x ps qs → FromZero ps → FromZero qs
zero_grown x [] [] g z = tt
zero_grown x [] (q ∷ qs) g z = absurd g
zero_grown x (p ∷ ps) [] g z = absurd g
zero_grown x (p ∷ ps) (q ∷ qs) g z = (g.0.0 ∙ z.0, zero_grown x ps qs g.1 z.1)

pub zero_along : (program : Program) (own n : ℕ) (h : List Received) (t : Process) → Reaches program own n h t → FromZero t.queues
zero_along program own n h t a =
    let b = a.1.0 in
    zero_grown b.interval b.queues t.queues (turns_grow own n a.0 b t a.1.2).1 (zero_grown (started program n).interval (started program n).queues b.queues (leads_grow own n h (started program n) b a.1.1).1 (zero_started n))

zero_at : (qs : List QueueRecord) (place : ℕ) → FromZero qs → (queue_at qs place).first ≡ 0
zero_at [] place z = refl
zero_at (q ∷ qs) zero z = z.0
zero_at (q ∷ qs) (suc place) z = zero_at qs place z.1

-- what a queue from 0 on has under a number stands at that place
at_number : (qs : List QueueRecord) (place i : ℕ) (e : QueueEntry) → FromZero qs → HasEntry qs place i e → slice_get (queue_at qs place).entries i ≡ Some e
at_number [] place i e z h = absurd h
at_number (q ∷ qs) zero i e z h =
    let at : i ≡ q.first + h.0 = h.1 in
    let none : q.first ≡ 0 = z.0 in
    let is : i ≡ h.0 = omega arith in
    ap (slice_get q.entries) is ∙ h.2
at_number (q ∷ qs) (suc place) i e z h = at_number qs place i e z.1 h

-- a part of a queue ends where the whole does
same_end : (fs qs : List QueueRecord) (place : ℕ) → KeepQueues fs qs → queue_end (queue_at qs place) ≡ queue_end (queue_at fs place)
same_end [] [] place k = refl
same_end [] (q ∷ qs) place k = absurd k
same_end (f ∷ fs) [] place k = absurd k
same_end (f ∷ fs) (q ∷ qs) zero k = one f q k.0
  where
    one : (f q : QueueRecord) → IsTrimmedQueue f q → queue_end q ≡ queue_end f
    one f q keeps =
        let e : length f.entries ≡ length keeps.0 + length q.entries = ap length keeps.1 ∙ length-append keeps.0 q.entries in
        let g : q.first ≡ f.first + length keeps.0 = keeps.2 in
        omega arith
same_end (f ∷ fs) (q ∷ qs) (suc place) k = same_end fs qs place k.1

-- lists that have the same at each place
same_list : (es : List QueueEntry) (os : List HeldOutput) → length es ≡ length os
    → ((i : ℕ) (o : HeldOutput) → slice_get os i ≡ Some o → slice_get es i ≡ Some (output_entry o)) → es ≡ map output_entry os
same_list [] [] long all = refl
same_list [] (o ∷ os) long all = absurd (omega (arith, long))
same_list (e ∷ es) [] long all = absurd (omega (arith, long))
same_list (e ∷ es) (o ∷ os) long all =
    let head : e ≡ output_entry o = once (all 0 o refl) in
    ap (λ x. x ∷ es) head ∙ ap (λ xs. output_entry o ∷ xs) (same_list es os (omega (arith, long)) (λ i p at. all (suc i) p at))
  where
    once : {a b : QueueEntry} → Some a ≡ Some b → a ≡ b
    once same = cc

-- ---- nothing comes after a rest
pub rest_of : (status : Status) → IsEnd status → IsAtRest status
rest_of Ready end = end
rest_of Waiting end = tt
rest_of (Ended code) end = tt
rest_of (Trapped cause) end = tt

no_move : (s : Process) (move : Move) (t : Process) → IsAtRest (status_of move) → moved s move ≡ Some t → ⊥
no_move s Waits t end is = cc
no_move s (Ends code) t end is = cc
no_move s (Traps cause) t end is = cc
no_move s (Goes next) t end is = end
no_move s (Emits place body next) t end is = end

pub last : (own n k : ℕ) (s t : Process) → IsAtRest (status_of (next_move own n s.machine (made s.queues))) → Turns own n k s t → t ≡ s
last own n zero s t end a = a
last own n (suc k) s t end a = absurd (no_move s (next_move own n s.machine (made s.queues)) a.0 end a.1)

-- what another state along the same receipts has, the rest has
pub end_has : (program : Program) (own n place number : ℕ) (h : List Received) (s t : Process) (e : QueueEntry)
    → Reaches program own n h s → Reaches program own n h t → IsAtRest (status_of (next_move own n t.machine (made t.queues)))
    → HasEntry s.queues place number e → HasEntry t.queues place number e
end_has program own n place number h s t e a b end has = go (le_or a.0 b.0)
  where
    le_or : (x y : ℕ) → (x ≤ y) ⊎ (y ≤ x)
    le_or x y = grind arith

    same : a.1.0 ≡ b.1.0
    same = leads_once own n h (started program n) a.1.0 b.1.0 a.1.1 b.1.1

    go : (a.0 ≤ b.0) ⊎ (b.0 ≤ a.0) → HasEntry t.queues place number e
    go (inl le) =
        let on = turns_between own n a.0 b.0 a.1.0 s t a.1.2 (subst (λ x. Turns own n b.0 x t) (sym same) b.1.2) le in
        entry_stays s.interval place number s.queues t.queues e (turns_grow own n on.0 s t on.1).1 has
    go (inr le) =
        let on = turns_between own n b.0 a.0 b.1.0 t s b.1.2 (subst (λ x. Turns own n a.0 x s) same a.1.2) le in
        subst (λ (x : Process). HasEntry x.queues place number e) (last own n on.0 t s end on.1) has

-- ---- a world in its end
pub below : {A : Type 0} (xs : List A) (p : ℕ) (x : A) → slice_get xs p ≡ Some x → p < length xs
below [] p x at = cc
below (y ∷ xs) zero x at = omega arith
below (y ∷ xs) (suc p) x at = let rest = below xs p x at in omega (arith, rest)

up_at : (n p : ℕ) → p < n → slice_get (replicate n ProcessState.Up) p ≡ Some ProcessState.Up
up_at zero p lt = absurd (omega (arith, lt))
up_at (suc n) zero lt = refl
up_at (suc n) (suc p) lt = up_at n p (omega (arith, lt))

pub program_is : (programs : List Program) (p : ℕ) (program : Program) → slice_get programs p ≡ Some program → program_at programs p ≡ program
program_is [] p program at = cc
program_is (q ∷ programs) zero program at = cc
program_is (q ∷ programs) (suc p) program at = program_is programs p program at

pub core_once : {c d : CoreState} → Some (Some c) ≡ Some (Some d) → c ≡ d
core_once same = cc

-- what comes next in a core is what comes next where its receipts lead
pub same_next : (c : CoreState) (p n : ℕ) (whole : Process) → c.own ≡ p → cluster_size c.now ≡ n → IsTrimmed whole c.now
    → move_of c ≡ next_move p n whole.machine (made whole.queues)
same_next c p n whole own size keeps =
    ap (λ o. next_move o (cluster_size c.now) c.now.machine (made c.now.queues)) own
    ∙ ap (λ k. next_move p k c.now.machine (made c.now.queues)) size
    ∙ same_move p n whole c.now keeps

-- by the parts of what is known of one process
ends_so : (w : WorldState) (program : Program) (p n : ℕ) (h : List Received) (c : CoreState) (whole s : Process) (outputs : List HeldOutput)
    → c.own ≡ p → cluster_size c.now ≡ n → IsAtRest (status_of (move_of c)) → made_by c ≡ length outputs
    → Reaches program p n h whole → IsTrimmed whole c.now → Reaches program p n h s
    → ((i : ℕ) (o : HeldOutput) → slice_get outputs i ≡ Some o → HasEntry s.queues n i (output_entry o))
    → RestsWith program p n h outputs (status_of (move_of c))
ends_so w program p n h c whole s outputs own size ended number reaches keeps other first = record {
  end = whole;
  reaches = reaches;
  status_is = ap status_of same;
  at_rest = ended;
  put_out = queue_is (queue_at whole.queues n) zeroth entries;
}
  where
    same : move_of c ≡ next_move p n whole.machine (made whole.queues)
    same = same_next c p n whole own size keeps

    over : IsAtRest (status_of (next_move p n whole.machine (made whole.queues)))
    over = subst (λ move. IsAtRest (status_of move)) same ended

    zeroth : (queue_at whole.queues n).first ≡ 0
    zeroth = zero_at whole.queues n (zero_along program p n h whole reaches)

    ends_at : queue_end (queue_at whole.queues n) ≡ length outputs
    ends_at =
        sym (same_end whole.queues c.now.queues n keeps.queues)
        ∙ ap (λ k. queue_end (queue_at c.now.queues k)) (sym size)
        ∙ number

    long : length (queue_at whole.queues n).entries ≡ length outputs
    long = omega (arith, zeroth, ends_at)

    entries : (queue_at whole.queues n).entries ≡ map output_entry outputs
    entries = same_list (queue_at whole.queues n).entries outputs long
        (λ i o at. at_number whole.queues n i (output_entry o) (zero_along program p n h whole reaches)
        (end_has program p n n i h s whole (output_entry o) other reaches over (first i o at)))

    queue_is : (q : QueueRecord) → q.first ≡ 0 → q.entries ≡ map output_entry outputs → q ≡ record { first = 0; entries = map output_entry outputs }
    queue_is q none es =
        ap (λ (f : ℕ). record { first = f; entries = q.entries }) none
        ∙ ap (λ (xs : List QueueEntry). record { first = 0; entries = xs }) es

-- a process that is at rest, all of whose outputs are released
abbrev pub IsRested : WorldState → ℕ → Type 0
IsRested w p = (c : CoreState) × (slice_get w.cores p ≡ Some (Some c)) × (c.own ≡ p) × (cluster_size c.now ≡ length w.programs)
    × IsAtRest (status_of (move_of c)) × (made_by c ≡ length (released_by w.manager p))

-- it stands where its receipts lead
pub stands_at : (programs : List Program) (w : WorldState) (p : ℕ) (c : CoreState) → IsUnderWay programs w → p < length programs
    → slice_get w.cores p ≡ Some (Some c) → StandsAt w p c
stands_at programs w p c way lt core =
    (way.holds.up p c core (ap (λ places. slice_get places p) way.places ∙ up_at (length programs) p lt)).0

pub rests_with : (programs : List Program) (w : WorldState) (p : ℕ) (program : Program) (c : CoreState) → IsUnderWay programs w → IsRested w p
    → slice_get programs p ≡ Some program → slice_get w.cores p ≡ Some (Some c)
    → RestsWith program p (length programs) (received p w.live) (released_by w.manager p) (status_of (move_of c))
rests_with programs w p program c way done at core =
    let lt = below programs p program at in
    let these = way.these in
    let is : done.0 ≡ c = core_once (sym done.1 ∙ core) in
    let stands : StandsAt w p c = stands_at programs w p c way lt core in
    let long : length w.programs ≡ length programs = ap length these in
    let mine : program_at w.programs p ≡ program = ap (λ ps. program_at ps p) these ∙ program_is programs p program at in
    let first = way.holds.released p (subst (λ n. p < n) (sym long) lt) in
    subst (λ n. RestsWith program p n (received p w.live) (released_by w.manager p) (status_of (move_of c))) long
    (ends_so w program p (length w.programs) (received p w.live) c stands.whole first.0 (released_by w.manager p)
    (subst (λ (d : CoreState). d.own ≡ p) is done.2)
    (subst (λ (d : CoreState). cluster_size d.now ≡ length w.programs) is done.3)
    (subst (λ (d : CoreState). IsAtRest (status_of (move_of d))) is done.4)
    (subst (λ (d : CoreState). made_by d ≡ length (released_by w.manager p)) is done.5)
    (subst (λ q. Reaches q p (length w.programs) (received p w.live) stands.whole) mine stands.reaches)
    stands.keeps
    (subst (λ q. Reaches q p (length w.programs) (received p w.live) first.0) mine first.1)
    first.2)

pub rested_done : (w : WorldState) (p : ℕ) → IsDone w p → IsRested w p
rested_done w p done = (done.0, done.1, done.2, done.3, rest_of (status_of (move_of done.0)) done.4, done.5)

ended_core : (w : WorldState) (p : ℕ) (c : CoreState) → IsDone w p → slice_get w.cores p ≡ Some (Some c) → IsEnd (status_of (move_of c))
ended_core w p c done core =
    let is : done.0 ≡ c = core_once (sym done.1 ∙ core) in subst (λ (d : CoreState). IsEnd (status_of (move_of d))) is done.4

-- all of its processes do
pub whole_run : (programs : List Program) (w : WorldState) (outputs : List (List HeldOutput)) (statuses : List Status) → IsWhole programs w
    → length outputs ≡ length programs → length statuses ≡ length programs → AreReleasedIn w outputs → AreStatusesOf w statuses
    → IsRunBy programs w.live outputs statuses
whole_run programs w outputs statuses whole processes ends outs stats = record {
  rest = record {
    legal = subst (λ ps. Legal ps w.live) whole.way.these whole.way.holds.legal;
    processes = processes;
    stands = ends;
    each = λ p program out status at out_at status_at.
        let core = stats p status status_at in
        subst (λ os. RestsWith program p (length programs) (received p w.live) os status) (sym (outs p out out_at))
        (subst (λ s. RestsWith program p (length programs) (received p w.live) (released_by w.manager p) s) (sym core.2)
        (rests_with programs w p program core.0 whole.way (rested_done w p (whole.done p (below programs p program at))) at core.1));
  };
  ended = λ p status at.
      let core = stats p status at in
      let lt = subst (λ n. p < n) ends (below statuses p status at) in
      subst IsEnd (sym core.2) (ended_core w p core.0 (whole.done p lt) core.1);
}

-- what holds of each number below one, and of it, holds of each below the next
pub up_to_next : (P : ℕ → Type 0) (k : ℕ) → ((p : ℕ) → p < k → P p) → P k → (p : ℕ) → p < k + 1 → P p
up_to_next P k before at p lt = go (less_or p k lt)
  where
    less_or : (p k : ℕ) → p < k + 1 → (p < k) ⊎ (k ≡ p)
    less_or p k lt = grind arith

    go : (p < k) ⊎ (k ≡ p) → P p
    go (inl below) = before p below
    go (inr same) = subst P same at
