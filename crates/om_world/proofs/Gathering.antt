-- The manager takes a process into the gathering, and what a round that this finishes leaves.
use Rattle.std.proofs.Common.{◌≡◌, ◌≢◌, ◌⊎◌, inl, inr, ℕ, zero, suc, ◌+◌, ◌-◌, ◌≤◌, ◌<◌, List, [], ◌∷◌, ◌++◌, length, take, set, get_or, replicate, Option, Some, Bool, true, false, refl, sym, ap, ◌∙◌, subst, arith, length-append}
use Rattle.std.specs.Prelude.{if◌then◌else◌, cond, nat_eq, nat_le, nat_lt, slice_get, slice_index, slice_index_or}
use Rattle.std.proofs.lemmas.Bool.Decides.{nat_tests}
use Rattle.std.proofs.lemmas.List.{take_all}
use Rattle.om_interval.specs.Starts.{is_named, newest_of, starts_of}
use Rattle.om_interval.specs.declared.pid.TheConstants.{MAX_PROCESSES}
use Rattle.om_format.specs.declared.message.Message.{Message}
use Rattle.om_format.specs.Queues.{QueueRecord}
use Rattle.om_stable.specs.Content.{Content}
use Rattle.om_process.specs.Process.{Process, Program, Received}
use Rattle.om_process.specs.Core.{CoreState}
use Rattle.om_process.specs.Replays.{process_of_checkpoint}
use Rattle.om_process.specs.Dependencies.{Depends, count_from, greatest_from}
use Rattle.om_process.specs.Claims.{AtInterval, CheckpointOf, Makes, RecordOf, RowOf}
use Rattle.om_process.proofs.Making.{interval_along}
use Rattle.om_recover.specs.Rows.{Has, HasRow}
use Rattle.om_recover.specs.declared.row.RowKind.{RowKind}
use Rattle.om_recover.specs.declared.row.RowKind.TheVariants.{Checkpoint}
use Rattle.om_recover.proofs.CuttingLemmas.{has_after_cut, of_cut}
use Rattle.om_manager.specs.Gatherings.{AreAllIn, begins, presence_of, presences_of}
use Rattle.om_manager.specs.Outputs.{HeldOutput, within}
use Rattle.om_manager.specs.Rounds.{Finishes, Gathers, gathering_with}
use Rattle.om_manager.specs.State.{ManagerState, held_by, process_count, released_by}
use Rattle.om_manager.specs.declared.answers.Gathered.{Gathered}
use Rattle.om_manager.specs.declared.answers.Gathered.TheVariants.{Waiting, Finished}
use Rattle.om_manager.specs.declared.presence.Presence.{Presence}
use Rattle.om_manager.specs.declared.presence.Presence.TheVariants.{Away, Failed, Joined}
use Rattle.om_manager.proofs.ManagerLemmas.{finishes_keeps}
use Rattle.om_world.specs.declared.entry.Entry.{Entry}
use Rattle.om_world.specs.declared.process_state.ProcessState.{ProcessState}
use Rattle.om_world.specs.Failures.{gathered}
use Rattle.om_world.specs.Live.{cut_list, program_at, receipt_of, received}
use Rattle.om_world.specs.steps.Legal.{LegalAfter}
use Rattle.om_world.specs.World.{WorldState, output_entry, recovered}
use Rattle.om_world.specs.steps.Past.{Past, history, past_of}
use Rattle.om_world.specs.steps.Sound.{HasShape, IsFrame, IsOld, IsRunning, IsStored, KeptWithin, LogOf, NothingAbove, Runs, Sound}
use Rattle.om_world.proofs.Finish.{closed_legal}
use Rattle.om_world.proofs.FramesCut.{frames_cut}
use Rattle.om_world.proofs.Legal.{append_apart, append_none, at_cut, cut, cut_first, legal_after, received_more, take_take}
use Rattle.om_world.proofs.Lists.{inside, none_in, once, there}
use Rattle.om_world.proofs.Ordered.{depends_at, length-depends, take_long}
use Rattle.om_world.proofs.Raising.{beyond, less, recovery_row, recovery_within}
use Rattle.om_world.proofs.Telling.{released_all}

-- ---- who is in
-- one more is in
in_set : (l : List Presence) (p q : ℕ) (x : Presence) → ((q ≡ p) × (presence_of (set l p x) q ≡ x)) ⊎ (presence_of (set l p x) q ≡ presence_of l q)
in_set [] p q x = inr refl
in_set (y ∷ l) zero zero x = inl (refl, refl)
in_set (y ∷ l) zero (suc q) x = inr refl
in_set (y ∷ l) (suc p) zero x = inr refl
in_set (y ∷ l) (suc p) (suc q) x = elim (in_set l p q x) [ inl s ↦ inl (ap suc s.0, s.1) | inr o ↦ inr o ]

-- what is known of a process that the manager takes in
pub record IsEntering (w : WorldState) (p : ℕ) (presence : Presence) : Type 0 where
  pub not_up : slice_get w.places p ≡ Some ProcessState.Up → ⊥
  pub round : slice_index w.rounds p ≡ w.manager.round
  pub failed : presence ≡ Failed → slice_get w.places p ≡ Some (ProcessState.Down true)
  pub joined : (x : ℕ) → presence ≡ Joined x → x ≡ length (history (past_of w) p)

-- what is known of all who are in
pub record AreIn (w : WorldState) (presences : List Presence) : Type 0 where
  pub up : (q : ℕ) → slice_get w.places q ≡ Some ProcessState.Up → presence_of presences q ≡ Away
  pub round : (q : ℕ) → presence_of presences q ≢ Away → slice_index w.rounds q ≡ w.manager.round
  pub failed : (q : ℕ) → presence_of presences q ≡ Failed → slice_get w.places q ≡ Some (ProcessState.Down true)
  pub joined : (q x : ℕ) → presence_of presences q ≡ Joined x → x ≡ length (history (past_of w) q)

abbrev pub now_in : WorldState → ℕ → Presence → List Presence
now_in w p presence = set (presences_of w.manager.gathering) p presence

pub are_in : (w : WorldState) (p : ℕ) (x : Presence) → HasShape w → Sound w → IsEntering w p x → AreIn w (now_in w p x)
are_in w p x h s e = record {
  up = λ q up. elim (in_set (presences_of w.manager.gathering) p q x) [
    | inl here ↦ absurd (e.not_up (subst (λ o. slice_get w.places o ≡ Some ProcessState.Up) here.0 up))
    | inr old ↦ let c = h.there q up in old ∙ (s.up q c.0 c.1 up).away
  ];
  round = λ q some. elim (in_set (presences_of w.manager.gathering) p q x) [
    | inl here ↦ ap (slice_index w.rounds) here.0 ∙ e.round
    | inr old ↦ s.gathered q (λ away. some (old ∙ away))
  ];
  failed = λ q is. elim (in_set (presences_of w.manager.gathering) p q x) [
    | inl here ↦ ap (slice_get w.places) here.0 ∙ e.failed (sym here.1 ∙ is)
    | inr old ↦ s.failed q (sym old ∙ is)
  ];
  joined = λ q y is. elim (in_set (presences_of w.manager.gathering) p q x) [
    | inl here ↦ e.joined y (sym here.1 ∙ is) ∙ ap (λ o. length (history (past_of w) o)) (sym here.0)
    | inr old ↦ s.joined q y (sym old ∙ is)
  ];
}

-- ---- what is claimed of a process goes on
abbrev pub past_with : Past → List Entry → ManagerState → Past
past_with v live m = record { programs = v.programs; live = live; manager = m }

pub record Goes (v : Past) (live : List Entry) (m : ManagerState) : Type 0 where
  pub counts : (p q : ℕ) → count_from p (take (recovered v.manager q) (history v q)) ≤ count_from p (take (recovered m q) (received q live))
  pub released : (p : ℕ) → length (released_by v.manager p) ≤ length (released_by m p)
  pub old : (p : ℕ) (kind : RowKind) (x : ℕ) → IsOld v.manager p kind x → IsOld m p kind x

further : (a b y : ℕ) → a ≤ b → b ≤ y → a ≤ y
further a b y le lt = omega arith

kept_on : (v : Past) (live : List Entry) (m : ManagerState) (p : ℕ) (qs : List QueueRecord) → Goes v live m → KeptWithin v p qs → KeptWithin (past_with v live m) p qs
kept_on v live m p qs g k q queue at =
    let old = k q queue at in (
      (λ lt. further queue.first (count_from p (take (recovered v.manager q) (history v q))) (count_from p (take (recovered m q) (received q live))) (old.0 lt) (g.counts p q)),
      (λ is. further queue.first (length (released_by v.manager p)) (length (released_by m p)) (old.1 is) (g.released p)),
    )

running_on : (v : Past) (live : List Entry) (m : ManagerState) (p : ℕ) (held : Content) (c : CoreState) → Goes v live m → history v p ≡ received p live → IsRunning v p held c → IsRunning (past_with v live m) p held c
running_on v live m p held c g same r = record {
  state = subst (CheckpointOf (program_at v.programs p) p (length v.programs) c.now) same r.state;
  kept = kept_on v live m p c.now.queues g r.kept;
  log = subst (LogOf (program_at v.programs p) p (length v.programs) c.log) same r.log;
  pending = λ i row at. let old = r.pending i row at in record {
    row_of = subst (λ h. AtInterval h row.x (RowOf p (length v.programs) row.vec row.got)) same old.row_of;
    begun = old.begun;
    backed = elim old.backed [ inl has ↦ inl has | inr is ↦ inr (g.old p _ row.x is) ];
  };
  above = subst (λ (h : List Received). NothingAbove held c (length h)) same r.above;
}

-- a process that runs is in the interval of its receipts
pub running_interval : (v : Past) (p : ℕ) (held : Content) (c : CoreState) → IsRunning v p held c → c.now.interval ≡ length (history v p)
running_interval v p held c r =
    let reach = r.state.1 in
    ap (λ (t : Process). t.interval) r.state.2.same ∙ interval_along (program_at v.programs p) p (length v.programs) reach.0 (history v p) r.state.0 reach.1

-- a claim on an interval that a cut leaves
at_first : (h g : List Received) (x k : ℕ) (P : List Received → Type 0) → g ≡ take k h → x ≤ k → AtInterval h x P → AtInterval g x P
at_first h g x k P is le a = subst (λ l. AtInterval l x P) (sym is) (at_cut h x k P le a)

few_taken : (k : ℕ) (h : List Received) → length (take k h) ≤ k
few_taken zero h = omega arith
few_taken (suc k) [] = omega arith
few_taken (suc k) (r ∷ h) = let le = few_taken k h in omega arith

stored_on : (v : Past) (live : List Entry) (m : ManagerState) (p k : ℕ) (held : Content) → Goes v live m → received p live ≡ take k (history v p) → IsStored v p held → IsStored (past_with v live m) p held
stored_on v live m p k held g is s = record {
  checkpoints = λ x bytes le at.
      let few = few_taken k (history v p) in let same = ap length is in
      let c = s.checkpoints x bytes (further x (length (take k (history v p))) (length (history v p)) (omega arith) (short k (history v p))) at in
      (c.0, c.1, c.2, c.3, at_first (history v p) (received p live) x k (CheckpointOf (program_at v.programs p) p (length v.programs) (process_of_checkpoint c.0)) is (omega arith) c.4, kept_on v live m p (process_of_checkpoint c.0).queues g c.5);
  receipts = λ x bytes some le at.
      let few = few_taken k (history v p) in let same = ap length is in
      let r = s.receipts x bytes some (further x (length (take k (history v p))) (length (history v p)) (omega arith) (short k (history v p))) at in
      (r.0, r.1, at_first (history v p) (received p live) x k (RecordOf (program_at v.programs p) p (length v.programs) r.0) is (omega arith) r.2);
}
  where
    short : (k : ℕ) (h : List Received) → length (take k h) ≤ length h
    short zero h = omega arith
    short (suc k) [] = omega arith
    short (suc k) (r ∷ h) = let le = short k h in omega arith

-- ---- some process is not in yet
goes_waiting : (v : Past) (presences : List Presence) → Goes v v.live (gathering_with v.manager presences)
goes_waiting v presences = record {
  counts = λ p q. omega arith;
  released = λ p. omega arith;
  old = λ p kind x o. record { checkpoint = o.checkpoint; there = o.there; within = o.within; before = o.before };
}

sound_waiting : (w : WorldState) (presences : List Presence) → Sound w → AreIn w presences → Sound (gathered w Waiting (gathering_with w.manager presences))
sound_waiting w presences s a =
    let v = past_of w in
    let m = gathering_with w.manager presences in
    let g = goes_waiting v presences in
    record {
      legal = s.legal;
      frames = λ i f at. let o = s.frames i f at in record { from = o.from; known = o.known; said = o.said };
      outputs = s.outputs;
      rows = s.rows;
      stored = λ p held at. stored_on v w.live m p (length (history v p)) held g (sym (take_all (length (history v p)) (history v p) (omega arith))) (s.stored p held at);
      backed = λ row held has at. elim (s.backed row held has at) [ inl record_there ↦ inl record_there | inr is ↦ inr (g.old row.pid row.kind row.interval is) ];
      running = λ p c held at holds runs. running_on v w.live m p held c g refl (s.running p c held at holds runs);
      up = λ p c at place. let u = s.up p c at place in record { round = u.round; starts = u.starts; inc = u.inc; away = a.up p place };
      joined = a.joined;
      failed = a.failed;
      gathered = a.round;
      current = s.current;
      known = s.known;
      ends = s.ends;
      behind = s.behind;
      inside = s.inside;
      beyond = s.beyond;
    }

-- ---- the round is finished
-- receipts of a legal list are from processes that are there
from_known : (programs : List Program) (p : ℕ) (before es : List Entry) → ((r : Received) (i : ℕ) → slice_get (received p before) i ≡ Some r → r.from < length programs) → LegalAfter programs before es
    → (r : Received) (i : ℕ) → slice_get (received p (before ++ es)) i ≡ Some r → r.from < length programs
from_known programs p before [] old l = subst (λ es. (r : Received) (i : ℕ) → slice_get (received p es) i ≡ Some r → r.from < length programs) (sym (append_none before)) old
from_known programs p before (e ∷ es) old l = subst (λ es. (r : Received) (i : ℕ) → slice_get (received p es) i ≡ Some r → r.from < length programs) (append_apart before (e ∷ []) es)
    (from_known programs p (before ++ e ∷ []) es (subst (λ (h : List Received). (r : Received) (i : ℕ) → slice_get h i ≡ Some r → r.from < length programs) (sym (received_more p before e)) (one (nat_eq e.to p) refl)) l.1)
  where
    last : (h : List Received) → ((r : Received) (i : ℕ) → slice_get h i ≡ Some r → r.from < length programs) → (r : Received) (i : ℕ) → slice_get (h ++ receipt_of e ∷ []) i ≡ Some r → r.from < length programs
    last [] all r zero at = subst (λ (x : Received). x.from < length programs) (once (receipt_of e) r at) l.0.from
    last [] all r (suc i) at = absurd (none_in i r at)
    last (x ∷ h) all r zero at = all r zero at
    last (x ∷ h) all r (suc i) at = last h (λ y j f. all y (suc j) f) r i at

    one : (b : Bool) → nat_eq e.to p ≡ b → (r : Received) (i : ℕ) → slice_get (if nat_eq e.to p then received p before ++ receipt_of e ∷ [] else received p before) i ≡ Some r → r.from < length programs
    one true is = rw is (last (received p before) old)
    one false is = rw is old

-- where no receipt is from a process, there is no greatest of them
greatest_none : (q : ℕ) (h : List Received) → ((r : Received) (i : ℕ) → slice_get h i ≡ Some r → r.from ≢ q) → greatest_from q h ≡ 0
greatest_none q [] all = refl
greatest_none q (r ∷ h) all = go (nat_eq r.from q) refl (greatest_none q h (λ x i at. all x (suc i) at))
  where
    go : (b : Bool) → nat_eq r.from q ≡ b → greatest_from q h ≡ 0 → greatest_from q (r ∷ h) ≡ 0
    go true is none = absurd (all r zero refl (grind (arith, nat_tests)))
    go false is none = rw is none

of_take : (h : List Received) (k i : ℕ) (r : Received) → slice_get (take k h) i ≡ Some r → slice_get h i ≡ Some r
of_take h zero i r at = absurd (none_in i r at)
of_take [] (suc k) i r at = at
of_take (x ∷ h) (suc k) zero r at = at
of_take (x ∷ h) (suc k) (suc i) r at = of_take h k i r at

-- the recovery state is closed
pub state_closed : (w : WorldState) (p q : ℕ) → HasShape w → Sound w → q ≢ p → greatest_from q (take (recovered w.manager p) (history (past_of w) p)) ≤ recovered w.manager q
state_closed w p q h s other = elim (less p n) [
  | inr ge ↦ let size = h.size in let none = beyond w.manager.recovery p (omega arith) in subst (λ k. greatest_from q (take k (history (past_of w) p)) ≤ recovered w.manager q) (sym none) (omega arith)
  | inl lt ↦ elim (less q n) [
    | inr ge ↦
        let none = greatest_none q (take (recovered w.manager p) (history (past_of w) p))
        (λ r i at is. let few = from_known w.programs p [] w.live (λ x j f. absurd (none_in j x f)) (legal_after w.programs [] w.live s.legal) r i (of_take (history (past_of w) p) (recovered w.manager p) i r at) in omega arith) in
        omega arith
    | inl few ↦
        let row = recovery_row w p h lt in
        let claim = subst (λ o. AtInterval (history (past_of w) o) row.0.interval (RowOf o n row.0.vec row.0.got)) row.2 (s.rows row.0 row.1) in
        let vec : row.0.vec ≡ Depends n p (take (recovered w.manager p) (history (past_of w) p)) = claim.1.0 ∙ ap (λ x. Depends n p (take x (history (past_of w) p))) row.3 in
        let below = h.manager.exact.greatest.recoverable.closed row.0 row.1 (row.3 ∙ ap (recovered w.manager) (sym row.2)) in
        let long : q < length row.0.vec = subst (λ k. q < k) (sym (ap length vec ∙ length-depends n p (take (recovered w.manager p) (history (past_of w) p)))) few in
        let at : slice_index row.0.vec q ≡ greatest_from q (take (recovered w.manager p) (history (past_of w) p)) =
        ap (λ v. get_or v q 0) vec ∙ depends_at n p q (take (recovered w.manager p) (history (past_of w) p)) few ∙ apart (nat_eq q p) refl in
        let le = below.each q long in
        omega arith
  ]
]
  where
    n : ℕ
    n = length w.programs

    apart : (b : Bool) → nat_eq q p ≡ b → (if nat_eq q p then length (take (recovered w.manager p) (history (past_of w) p)) else greatest_from q (take (recovered w.manager p) (history (past_of w) p))) ≡ greatest_from q (take (recovered w.manager p) (history (past_of w) p))
    apart true is = absurd (other (grind (arith, nat_tests)))
    apart false is = rw is refl

-- ---- outputs of a finished round
pub front_at : (xs ys : List HeldOutput) (i : ℕ) (o : HeldOutput) → slice_get xs i ≡ Some o → slice_get (xs ++ ys) i ≡ Some o
front_at [] ys i o at = absurd (none_in i o at)
front_at (x ∷ xs) ys zero o at = at
front_at (x ∷ xs) ys (suc i) o at = front_at xs ys i o at

pub held_inside : (outputs : List (List HeldOutput)) (q i : ℕ) (o : HeldOutput) → slice_get (slice_index_or outputs q []) i ≡ Some o → q < length outputs
held_inside [] q i o at = absurd (none_in i o at)
held_inside (x ∷ outputs) zero i o at = omega arith
held_inside (x ∷ outputs) (suc q) i o at = let lt = held_inside outputs q i o at in omega arith

filtered_at : (b : Bool) (x : HeldOutput) (rest : List HeldOutput) (i : ℕ) (o : HeldOutput) → slice_get (cond b (x ∷ rest) rest) i ≡ Some o → ((b ≡ true) × (x ≡ o)) ⊎ ((j : ℕ) × (slice_get rest j ≡ Some o))
filtered_at true x rest zero o at = inl (refl, once x o at)
filtered_at true x rest (suc i) o at = inr (i, at)
filtered_at false x rest i o at = inr (i, at)

pub within_at : (xs : List HeldOutput) (limit i : ℕ) (o : HeldOutput) → slice_get (within xs limit) i ≡ Some o → o.interval ≤ limit
within_at [] limit i o at = absurd (none_in i o at)
within_at (x ∷ xs) limit i o at = elim (filtered_at (nat_le x.interval limit) x (within xs limit) i o at) [
  | inl here ↦ subst (λ (y : HeldOutput). y.interval ≤ limit) here.1 (low x.interval limit here.0)
  | inr rest ↦ within_at xs limit rest.0 o rest.1
]
  where
    low : (a b : ℕ) → nat_le a b ≡ true → a ≤ b
    low a b e = grind (arith, nat_tests)

none_away : (n q : ℕ) → presence_of (replicate n Away) q ≡ Away
none_away zero q = refl
none_away (suc n) zero = refl
none_away (suc n) (suc q) = none_away n q

not_joined : (a : Presence) (x : ℕ) → a ≡ Away → a ≡ Joined x → ⊥
not_joined a x e f = cc

not_failed : (a : Presence) → a ≡ Away → a ≡ Failed → ⊥
not_failed a e f = cc

not_in : (o : Option ProcessState) → o ≡ Some ProcessState.In → o ≡ Some (ProcessState.Down true) → ⊥
not_in o e f = cc

-- whoever is in failed, or joined
data How (presences : List Presence) (q : ℕ) : Type 0 where
  failed : presence_of presences q ≡ Failed → How presences q
  joined : (x : ℕ) → presence_of presences q ≡ Joined x → How presences q

how : (presences : List Presence) (q : ℕ) → presence_of presences q ≢ Away → How presences q
how presences q some = go (presence_of presences q) refl
  where
    go : (a : Presence) → presence_of presences q ≡ a → How presences q
    go Away is = absurd (some is)
    go Failed is = failed is
    go (Joined x) is = joined x is

begins_failed : (a : Presence) (place : ℕ) → a ≡ Failed → begins a place ≡ true
begins_failed a place e = ap (λ b. begins b place) e

begins_joined : (a : Presence) (x place : ℕ) → a ≡ Joined x → begins a place ≡ nat_lt place x
begins_joined a x place e = ap (λ b. begins b place) e

-- what a finished round with these in leaves
pub record AreDone (w : WorldState) (presences : List Presence) (m : ManagerState) : Type 0 where
  pub shape : HasShape w
  pub sound : Sound w
  pub known : AreIn w presences
  pub all : AreAllIn (process_count w.manager) presences
  pub done : Finishes presences w.manager m

-- how many receipts of a process are left
left_length : (w : WorldState) (q : ℕ) → HasShape w → Sound w → length (received q (cut_list w.manager.recovery w.live)) ≡ recovered w.manager q
left_length w q h s = ap length (cut_first w.manager.recovery w.live q) ∙ take_long (recovered w.manager q) (history (past_of w) q) (recovery_within w h s q)

-- who is not named is not cut
not_cut : (w : WorldState) (presences : List Presence) (m : ManagerState) (q : ℕ) → AreDone w presences m → q < length w.programs → is_named m.backs q ≡ false → length (history (past_of w) q) ≤ recovered w.manager q
not_cut w presences m q d lt none =
    let size = d.shape.size in
    let is : begins (presence_of presences q) (recovered w.manager q) ≡ false = sym (d.done.backs q (omega arith)) ∙ none in
    elim (how presences q (d.all q (omega arith))) [
      | failed e ↦ absurd (apart (sym (begins_failed (presence_of presences q) (recovered w.manager q) e) ∙ is))
      | joined x e ↦ let at = d.known.joined q x e in let test = sym (begins_joined (presence_of presences q) x (recovered w.manager q) e) ∙ is in let le = low (recovered w.manager q) x test in omega arith
    ]
  where
    apart : true ≡ false → ⊥
    apart e = cc

    low : (a b : ℕ) → nat_lt a b ≡ false → b ≤ a
    low a b e = grind (arith, nat_tests)

not_cut_same : (w : WorldState) (presences : List Presence) (m : ManagerState) (q : ℕ) → AreDone w presences m → q < length w.programs → is_named m.backs q ≡ false → history (past_of w) q ≡ received q (cut_list w.manager.recovery w.live)
not_cut_same w presences m q d lt none = sym (cut_first w.manager.recovery w.live q ∙ take_all (recovered w.manager q) (history (past_of w) q) (not_cut w presences m q d lt none))

-- nobody is up
none_up : (w : WorldState) (presences : List Presence) (m : ManagerState) (q : ℕ) → AreDone w presences m → slice_get w.places q ≡ Some ProcessState.Up → ⊥
none_up w presences m q d up =
    let lt = inside w.places q ProcessState.Up up in let long = d.shape.places in let size = d.shape.size in
    d.all q (omega arith) (d.known.up q up)

round_of : (w : WorldState) (presences : List Presence) (m : ManagerState) (q : ℕ) → AreDone w presences m → q < length w.programs → slice_index w.rounds q ≡ w.manager.round
round_of w presences m q d lt = let size = d.shape.size in d.known.round q (d.all q (omega arith))

-- who is in ran, and runs still where it is not named
ran : (w : WorldState) (presences : List Presence) (m : ManagerState) (q : ℕ) → AreDone w presences m → q < length w.programs → slice_get w.places q ≡ Some ProcessState.In → Runs w q
ran w presences m q d lt place = let same = round_of w presences m q d lt in inr (place, λ news. absurd (none news))
  where
    none : slice_index w.rounds q < w.manager.round → ⊥
    none news = let same = round_of w presences m q d lt in omega arith

not_named : (w : WorldState) (presences : List Presence) (m : ManagerState) (q : ℕ) → AreDone w presences m → q < length w.programs → Runs (gathered w Finished m) q → is_named m.backs q ≡ false
not_named w presences m q d lt runs = elim runs [
  | inl up ↦ absurd (none_up w presences m q d up)
  | inr stays ↦ let same = round_of w presences m q d lt in let next = d.done.round in stays.1 (omega arith)
]

pub goes_finished : (w : WorldState) (presences : List Presence) (m : ManagerState) → AreDone w presences m → Goes (past_of w) (cut_list w.manager.recovery w.live) m
goes_finished w presences m d =
    let f = d.done in
    let R = recovered w.manager in
    record {
      counts = λ p q.
          let same : take (recovered m q) (received q (cut_list w.manager.recovery w.live)) ≡ take (R q) (history (past_of w) q) =
          ap (λ state. take (slice_index state q) (received q (cut_list w.manager.recovery w.live))) f.recovery ∙ ap (take (R q)) (cut_first w.manager.recovery w.live q) ∙ take_take (R q) (R q) (history (past_of w) q) (omega arith) in
          subst (λ l. count_from p (take (R q) (history (past_of w) q)) ≤ count_from p l) (sym same) (omega arith);
      released = released_all w.manager m d.shape.manager (finishes_keeps presences w.manager m f);
      old = λ p kind x o. record {
        checkpoint = o.checkpoint;
        there = subst (λ rows. Has rows Checkpoint p o.checkpoint) (sym f.rows) (has_after_cut w.manager.rows w.manager.recovery Checkpoint p o.checkpoint o.within o.there);
        within = subst (λ state. o.checkpoint ≤ slice_index state p) (sym f.recovery) o.within;
        before = o.before;
      };
    }

-- a frame that was no orphan and is none was sent within the recovery state
frame_done : (w : WorldState) (presences : List Presence) (m : ManagerState) (f : Message) → AreDone w presences m → IsFrame (past_of w) f → IsFrame (past_with (past_of w) (cut_list w.manager.recovery w.live) m) f
frame_done w presences m f d o =
    let n = length w.programs in
    let q = f.from in
    let size = d.shape.size in let begun = d.shape.manager.begun in let places = begun.places in
    let from = o.from in let at : q < length w.manager.starts = omega arith in let here : q < length w.manager.recovery = omega arith in
    let P : List Received → Type 0 = Makes (program_at w.programs q) q n f.to f.ssn (record { interval = f.tag.interval; body = f.body }) in
    record {
      from = o.from;
      known = grown (is_named m.backs q) refl;
      said = elim (frames_cut m.backs w.manager.recovery w.manager.starts m.starts q f.tag.inc f.tag.interval (history (past_of w) q) P d.done.begin at (begun.lawful q here).some o.known (λ i lt. begun.within q i here lt) (λ none. not_cut w presences m q d o.from none) o.said) [
        | inl cut ↦ inl cut
        | inr said ↦ inr (subst (λ h. AtInterval h f.tag.interval P) (sym (cut_first w.manager.recovery w.live q)) said)
      ];
    }
  where
    grown : (b : Bool) → is_named m.backs f.from ≡ b → f.tag.inc ≤ newest_of m.starts f.from
    grown true is =
        let size = d.shape.size in let places = d.shape.manager.begun.places in let from = o.from in
        let more = ap length (d.done.begin.named f.from (omega arith) is) ∙ length-append (starts_of w.manager.starts f.from) ((slice_index w.manager.recovery f.from + 1) ∷ []) in
        let old = o.known in
        omega arith
    grown false is =
        let size = d.shape.size in let places = d.shape.manager.begun.places in let from = o.from in
        let same = ap length (d.done.begin.others f.from (omega arith) is) in
        let old = o.known in
        omega arith

pub sound_finished : (w : WorldState) (presences : List Presence) (m : ManagerState) → AreDone w presences m → Sound (gathered w Finished m)
sound_finished w presences m d =
    let s = d.sound in
    let h = d.shape in
    let f = d.done in
    let v = past_of w in
    let n = length w.programs in
    let R = recovered w.manager in
    let live = cut_list w.manager.recovery w.live in
    let g = goes_finished w presences m d in
    let closed = f.closed in
    record {
      legal = cut w.programs w.manager.recovery w.live s.legal (closed_legal w.programs w.manager.recovery w.live s.legal (λ p q other. state_closed w p q h s other));
      frames = λ i x at. frame_done w presences m x d (s.frames i x at);
      outputs = λ p i o at.
          let size = h.size in let many = f.places in let old = h.manager.places in
          let lt = held_inside m.outputs p i o at in
          let here : slice_get (released_by w.manager p) i ≡ Some o = ap (λ l. slice_get l i) (sym (f.outputs p (omega arith))) ∙ at in
          let front = h.manager.released p (omega arith) in
          let was : slice_get (held_by w.manager p) i ≡ Some o = ap (λ l. slice_get l i) (sym front.1) ∙ front_at (released_by w.manager p) front.0 i o here in
          at_first (history v p) (received p live) o.interval (R p) (Makes (program_at w.programs p) p n n i (output_entry o)) (cut_first w.manager.recovery w.live p) (within_at (held_by w.manager p) (R p) i o here) (s.outputs p i o was);
      rows = λ row has.
          let old = of_cut w.manager.rows w.manager.recovery row (subst (λ rows. HasRow rows row) f.rows has) in
          at_first (history v row.pid) (received row.pid live) row.interval (R row.pid) (RowOf row.pid n row.vec row.got) (cut_first w.manager.recovery w.live row.pid) old.1 (s.rows row old.0);
      stored = λ p held at. stored_on v live m p (R p) held g (cut_first w.manager.recovery w.live p) (s.stored p held at);
      backed = λ row held has at.
          let old = of_cut w.manager.rows w.manager.recovery row (subst (λ rows. HasRow rows row) f.rows has) in
          elim (s.backed row held old.0 at) [ inl there ↦ inl there | inr is ↦ inr (g.old row.pid row.kind row.interval is) ];
      running = λ p c held at holds runs.
          let long = h.cores in let lt' = inside w.cores p (Some c) at in let lt : p < n = omega arith in
          let none = not_named w presences m p d lt runs in
          let place = elim runs as (λ _. slice_get w.places p ≡ Some ProcessState.In) [ inl up ↦ absurd (none_up w presences m p d up) | inr stays ↦ stays.0 ] in
          running_on v live m p held c g (not_cut_same w presences m p d lt none) (s.running p c held at holds (ran w presences m p d lt place));
      up = λ p c at place. absurd (none_up w presences m p d place);
      joined = λ p x at. absurd (not_joined (presence_of (presences_of m.gathering) p) x (ap (λ o. presence_of (presences_of o) p) closed ∙ none_away MAX_PROCESSES p) at);
      failed = λ p at. absurd (not_failed (presence_of (presences_of m.gathering) p) (ap (λ o. presence_of (presences_of o) p) closed ∙ none_away MAX_PROCESSES p) at);
      gathered = λ p some. absurd (some (ap (λ o. presence_of (presences_of o) p) closed ∙ none_away MAX_PROCESSES p));
      current = λ p place. absurd (none_up w presences m p d place);
      known = λ p. let le = s.known p in let next = f.round in omega arith;
      ends = λ p declared held place old holds.
          let long = h.places in let lt = inside w.places p (ProcessState.Down declared) place in
          let same = round_of w presences m p d (omega arith) in let next = f.round in
          absurd (old (omega arith));
      behind = λ p lt news. left_length w p h s ∙ ap (λ l. slice_index l p) (sym f.last);
      inside = λ p c at place runs.
          let long = h.cores in let lt' = inside w.cores p (Some c) at in let lt : p < n = omega arith in
          let size = h.size in let places = h.manager.begun.places in
          let none = not_named w presences m p d lt runs in
          s.inside p c at place (ran w presences m p d lt place) ∙ ap (λ l. length l - 1) (sym (f.begin.others p (omega arith) none));
      beyond = λ p c at place news named.
          let long = h.cores in let lt' = inside w.cores p (Some c) at in let lt : p < n = omega arith in
          let size = h.size in
          let is : begins (presence_of presences p) (R p) ≡ true = sym (f.backs p (omega arith)) ∙ named in
          let held = h.stores in let store = there w.contents p (omega arith) in
          let interval = running_interval v p store.0 c (s.running p c store.0 at store.1 (ran w presences m p d lt place)) in
          elim (how presences p (d.all p (omega arith))) [
            | failed e ↦ absurd (not_in (slice_get w.places p) place (d.known.failed p e))
            | joined x e ↦
                let current = d.known.joined p x e in
                let above = high (R p) x (sym (begins_joined (presence_of presences p) x (R p) e) ∙ is) in
                let last = ap (λ l. slice_index l p) f.last in
                omega arith
          ];
    }
  where
    high : (a b : ℕ) → nat_lt a b ≡ true → a < b
    high a b e = grind (arith, nat_tests)

-- ---- the manager has taken a process in
pub sound_gathered : (w : WorldState) (p : ℕ) (x : Presence) (answer : Gathered) (m : ManagerState) → HasShape w → Sound w → IsEntering w p x → Gathers (now_in w p x) w.manager answer m → Sound (gathered w answer m)
sound_gathered w p x Waiting m h s e g = subst (λ (k : ManagerState). Sound (gathered w Waiting k)) (sym g.1) (sound_waiting w (now_in w p x) s (are_in w p x h s e))
sound_gathered w p x Finished m h s e g = sound_finished w (now_in w p x) m (record { shape = h; sound = s; known = are_in w p x h s e; all = g.0; done = g.1 })
