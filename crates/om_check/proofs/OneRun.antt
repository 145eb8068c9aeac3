-- What was received in a run without failures determines what it comes to.
use Rattle.std.proofs.Common.{◌≡◌, ◌⊎◌, inl, inr, ℕ, zero, suc, ◌≤◌, ◌<◌, List, [], ◌∷◌, length, map, Some, refl, sym, ap, subst, ◌∙◌, arith}
use Rattle.std.specs.Prelude.{slice_get}
use Rattle.om_format.specs.declared.queue.QueueEntry.{QueueEntry}
use Rattle.om_format.specs.Queues.{QueueRecord}
use Rattle.om_process.specs.Core.{status_of}
use Rattle.om_process.specs.Kept.{queue_at}
use Rattle.om_process.specs.Process.{Process, Program, Received, made, started}
use Rattle.om_process.specs.Turns.{Reaches, Turns, next_move}
use Rattle.om_process.specs.declared.status.Status.{Status}
use Rattle.om_process.proofs.Runs.{leads_once, turns_between}
use Rattle.om_manager.specs.Outputs.{HeldOutput}
use Rattle.om_world.specs.declared.entry.Entry.{Entry}
use Rattle.om_world.specs.Live.{received}
use Rattle.om_world.specs.World.{output_entry}
use Rattle.om_check.specs.FailureFree.{IsAtRest, IsRestBy, IsRunBy, IsStuckBy, RestsWith}
use Rattle.om_check.specs.Orders.{IsSameRun}
use Rattle.om_check.proofs.Lists.{head_is, tail_is}
use Rattle.om_check.proofs.Ending.{below, last}

-- the receipts lead to one rest at most
pub one_rest : (program : Program) (own n : ℕ) (h : List Received) (s t : Process) → Reaches program own n h s → Reaches program own n h t
    → IsAtRest (status_of (next_move own n s.machine (made s.queues))) → IsAtRest (status_of (next_move own n t.machine (made t.queues))) → s ≡ t
one_rest program own n h s t a b s_rests t_rests = go (le_or a.0 b.0)
  where
    le_or : (x y : ℕ) → (x ≤ y) ⊎ (y ≤ x)
    le_or x y = grind arith

    same : a.1.0 ≡ b.1.0
    same = leads_once own n h (started program n) a.1.0 b.1.0 a.1.1 b.1.1

    go : (a.0 ≤ b.0) ⊎ (b.0 ≤ a.0) → s ≡ t
    go (inl le) =
        let on = turns_between own n a.0 b.0 a.1.0 s t a.1.2 (subst (λ x. Turns own n b.0 x t) (sym same) b.1.2) le in
        sym (last own n on.0 s t s_rests on.1)
    go (inr le) =
        let on = turns_between own n b.0 a.0 b.1.0 t s b.1.2 (subst (λ x. Turns own n a.0 x s) same a.1.2) le in
        last own n on.0 t s t_rests on.1

-- entries are those of one list of outputs
one_output : (o p : HeldOutput) → output_entry o ≡ output_entry p → o ≡ p
one_output o p same = ap (λ (e : QueueEntry). record { interval = e.interval; bytes = e.body }) same

one_list : (os ps : List HeldOutput) → map output_entry os ≡ map output_entry ps → os ≡ ps
one_list [] [] same = refl
one_list [] (p ∷ ps) same = cc
one_list (o ∷ os) [] same = cc
one_list (o ∷ os) (p ∷ ps) same =
    ap (λ x. x ∷ os) (one_output o p (head_is _ _ _ _ same)) ∙ ap (λ xs. p ∷ xs) (one_list os ps (tail_is _ _ _ _ same))

-- one process comes to one rest
rests_once : (program : Program) (own n : ℕ) (h g : List Received) (os ps : List HeldOutput) (s t : Status) → h ≡ g
    → RestsWith program own n h os s → RestsWith program own n g ps t → (os ≡ ps) × (s ≡ t)
rests_once program own n h g os ps s t one a b =
    let same : a.end ≡ b.end = one_rest program own n h a.end b.end a.reaches (subst (λ r. Reaches program own n r b.end) (sym one) b.reaches)
    (subst IsAtRest a.status_is a.at_rest) (subst IsAtRest b.status_is b.at_rest) in (
      one_list os ps
          (ap (λ (q : QueueRecord). q.entries) (sym a.put_out ∙ ap (λ (e : Process). queue_at e.queues n) same ∙ b.put_out)),
      a.status_is ∙ ap (λ (e : Process). status_of (next_move own n e.machine (made e.queues))) same ∙ sym b.status_is,
    )

-- ---- lists by their places
pub there : {A : Type 0} (xs : List A) (p : ℕ) → p < length xs → (x : A) × (slice_get xs p ≡ Some x)
there [] p lt = absurd (omega (arith, lt))
there (x ∷ xs) zero lt = (x, refl)
there (x ∷ xs) (suc p) lt = there xs p (omega (arith, lt))

by_place : {A : Type 0} (xs ys : List A) → length xs ≡ length ys
    → ((p : ℕ) (x y : A) → slice_get xs p ≡ Some x → slice_get ys p ≡ Some y → x ≡ y) → xs ≡ ys
by_place [] [] long same = refl
by_place [] (y ∷ ys) long same = absurd (omega (arith, long))
by_place (x ∷ xs) [] long same = absurd (omega (arith, long))
by_place (x ∷ xs) (y ∷ ys) long same =
    ap (λ z. z ∷ xs) (same 0 x y refl refl) ∙ ap (λ zs. y ∷ zs) (by_place xs ys (omega (arith, long)) (λ p a b at bt. same (suc p) a b at bt))

-- ---- a run is at rest in one way
pub rests : (programs : List Program) (live : List Entry) (outputs : List (List HeldOutput)) (statuses : List Status)
    → IsRunBy programs live outputs statuses → IsRestBy programs live outputs statuses
rests programs live outputs statuses run = run.rest

pub stuck_rests : (programs : List Program) (live : List Entry) (outputs : List (List HeldOutput)) (statuses : List Status)
    → IsStuckBy programs live outputs statuses → IsRestBy programs live outputs statuses
stuck_rests programs live outputs statuses stuck = stuck.rest

pub one_rest_of : (programs : List Program) (live other : List Entry) (outputs others : List (List HeldOutput)) (statuses ends : List Status)
    → IsRestBy programs live outputs statuses → IsRestBy programs other others ends → IsSameRun live other → (outputs ≡ others) × (statuses ≡ ends)
one_rest_of programs live other outputs others statuses ends a b one = (
  by_place outputs others (a.processes ∙ sym b.processes) outs,
  by_place statuses ends (a.stands ∙ sym b.stands) stats,
)
  where
    outs : (p : ℕ) (os ps : List HeldOutput) → slice_get outputs p ≡ Some os → slice_get others p ≡ Some ps → os ≡ ps
    outs p os ps at bt =
        let lt : p < length programs = subst (λ k. p < k) a.processes (below outputs p os at) in
        let program = there programs p lt in
        let s = there statuses p (subst (λ k. p < k) (sym a.stands) lt) in
        let t = there ends p (subst (λ k. p < k) (sym b.stands) lt) in
        (rests_once program.0 p (length programs) (received p live) (received p other) os ps s.0 t.0 (one p)
        (a.each p program.0 os s.0 program.1 at s.1) (b.each p program.0 ps t.0 program.1 bt t.1)).0

    stats : (p : ℕ) (s t : Status) → slice_get statuses p ≡ Some s → slice_get ends p ≡ Some t → s ≡ t
    stats p s t at bt =
        let lt : p < length programs = subst (λ k. p < k) a.stands (below statuses p s at) in
        let program = there programs p lt in
        let os = there outputs p (subst (λ k. p < k) (sym a.processes) lt) in
        let ps = there others p (subst (λ k. p < k) (sym b.processes) lt) in
        (rests_once program.0 p (length programs) (received p live) (received p other) os.0 ps.0 s t (one p)
        (a.each p program.0 os.0 s program.1 os.1 at) (b.each p program.0 ps.0 t program.1 ps.1 bt)).1

pub one_run : (programs : List Program) (live : List Entry) (outputs others : List (List HeldOutput)) (statuses ends : List Status)
    → IsRunBy programs live outputs statuses → IsRunBy programs live others ends → (outputs ≡ others) × (statuses ≡ ends)
one_run programs live outputs others statuses ends a b =
    one_rest_of programs live live outputs others statuses ends (rests programs live outputs statuses a) (rests programs live others ends b) (λ p. refl)
