-- Entries that are each made at their interval are the first of one state's.
use Rattle.std.proofs.Common.{◌≡◌, ◌⊎◌, inl, inr, ℕ, zero, suc, ◌+◌, ◌≤◌, ◌<◌, List, [], ◌∷◌, ◌++◌, length, take, Some, Bool, true, false, refl, sym, ap, subst, arith}
use Rattle.std.specs.Prelude.{if◌then◌else◌, nat_eq, slice_get}
use Rattle.std.proofs.lemmas.Bool.Decides.{nat_tests}
use Rattle.std.proofs.lemmas.List.{take_all}
use Rattle.om_format.specs.declared.queue.QueueEntry.{QueueEntry}
use Rattle.om_process.specs.Process.{Process, Program, Received, delivered, started}
use Rattle.om_process.specs.Turns.{Turns, Leads, Reaches}
use Rattle.om_process.specs.Claims.{AtInterval, Makes, HasEntry, LeadsToWait}
use Rattle.om_process.proofs.Runs.{leads_once, turns_between, turns_grow, earlier, leads_more}
use Rattle.om_process.proofs.Making.{entry_stays}
use Rattle.om_process.proofs.Replays.{turns_to_wait}
use Rattle.om_world.specs.declared.entry.Entry.{Entry}
use Rattle.om_world.specs.Live.{program_at, receipt_of, received, MayFollow, Legal}
use Rattle.om_world.specs.steps.Legal.{LegalAfter}
use Rattle.om_world.proofs.Legal.{append_none, append_apart, legal_after, received_more}

pub split_at : (x : ℕ) (h : List Received) → x < length h → (r : Received) × (rest : List Received) × (h ≡ take x h ++ r ∷ rest)
split_at x [] lt = absurd (omega arith)
split_at zero (r ∷ h) lt = (r, h, refl)
split_at (suc x) (r ∷ h) lt = let s = split_at x h (omega arith) in (s.0, s.1, ap (λ l. r ∷ l) s.2)

-- what is made along fewer receipts stands in each state along more
pub made_stays : (program : Program) (own n place number : ℕ) (g rest : List Received) (r : Received) (e : QueueEntry) (s : Process) → Makes program own n place number e g → Reaches program own n (g ++ r ∷ rest) s → HasEntry s.queues place number e
made_stays program own n place number g rest r e s m a =
    let w = earlier own n (started program n) s g rest r a.0 a.1 in
    let u = m.1.1 in let v = w.2 in
    let same = leads_once own n g (started program n) u.0 v.0 u.1 v.1 in
    let on = turns_to_wait own n w.0 m.1.0 u.0 w.1 m.0 (subst (λ x. Turns own n w.0 x w.1) (sym same) v.2) w.3 u.2 in
    entry_stays (0 + length g + 1) place number w.1.queues s.queues e w.4 (entry_stays m.0.interval place number m.0.queues w.1.queues e (turns_grow own n on.0 m.0 w.1 on.1).1 m.2)

-- the state has these entries, from this number on
abbrev HasAll : ℕ → ℕ → List QueueEntry → Process → Type 0
HasAll place base es s = (i : ℕ) (e : QueueEntry) → slice_get es i ≡ Some e → HasEntry s.queues place (base + i) e

once : (a b : QueueEntry) → Some a ≡ Some b → a ≡ b
once a b e = cc

none_there : (i : ℕ) (e : QueueEntry) → slice_get [] i ≡ Some e → ⊥
none_there i e h = cc

both : (program : Program) (own n place base : ℕ) (h : List Received) (d : QueueEntry) (es : List QueueEntry) (s t : Process) → Reaches program own n h s → Reaches program own n h t → HasAll place (base + 1) es s → HasEntry t.queues place base d
    → (u : Process) × Reaches program own n h u × HasAll place base (d ∷ es) u
both program own n place base h d es s t a b all one = go (le_or a.0 b.0)
  where
    le_or : (x y : ℕ) → (x ≤ y) ⊎ (y ≤ x)
    le_or x y = grind arith

    same : a.1.0 ≡ b.1.0
    same = leads_once own n h (started program n) a.1.0 b.1.0 a.1.1 b.1.1

    join : (u : Process) → HasAll place (base + 1) es u → HasEntry u.queues place base d → HasAll place base (d ∷ es) u
    join u more first zero e at = subst (λ k. HasEntry u.queues place k e) (none base) (subst (HasEntry u.queues place base) (once d e at) first)
      where
        none : (base : ℕ) → base ≡ base + 0
        none base = omega arith
    join u more first (suc i) e at = subst (λ k. HasEntry u.queues place k e) (next base i) (more i e at)
      where
        next : (base i : ℕ) → (base + 1) + i ≡ base + suc i
        next base i = omega arith

    go : (a.0 ≤ b.0) ⊎ (b.0 ≤ a.0) → (u : Process) × Reaches program own n h u × HasAll place base (d ∷ es) u
    go (inl le) =
        let on = turns_between own n a.0 b.0 a.1.0 s t a.1.2 (subst (λ x. Turns own n b.0 x t) (sym same) b.1.2) le in
        (t, b, join t (λ i e at. entry_stays s.interval place ((base + 1) + i) s.queues t.queues e (turns_grow own n on.0 s t on.1).1 (all i e at)) one)
    go (inr le) =
        let on = turns_between own n b.0 a.0 b.1.0 t s b.1.2 (subst (λ x. Turns own n a.0 x s) same a.1.2) le in
        (s, a, join s all (entry_stays t.interval place base t.queues s.queues d (turns_grow own n on.0 t s on.1).1 one))

pub made_first : (program : Program) (own n place base : ℕ) (h : List Received) (es : List QueueEntry) → (a : Process) × Reaches program own n h a
    → ((i : ℕ) (e : QueueEntry) → slice_get es i ≡ Some e → AtInterval h e.interval (Makes program own n place (base + i) e)) → (s : Process) × Reaches program own n h s × HasAll place base es s
made_first program own n place base h [] a all = (a.0, a.1, λ i e at. absurd (none_there i e at))
made_first program own n place base h (d ∷ es) a all = go (made_first program own n place (base + 1) h es a (λ i e at. subst (λ k. AtInterval h e.interval (Makes program own n place k e)) (next base i) (all (suc i) e at))) (less d.interval (length h))
  where
    less : (x y : ℕ) → (x < y) ⊎ (y ≤ x)
    less x y = grind arith

    next : (base i : ℕ) → base + suc i ≡ (base + 1) + i
    next base i = omega arith

    none : (base : ℕ) → base + 0 ≡ base
    none base = omega arith

    first : AtInterval h d.interval (Makes program own n place base d)
    first = subst (λ k. AtInterval h d.interval (Makes program own n place k d)) (none base) (all 0 d refl)

    go : (s : Process) × Reaches program own n h s × HasAll place (base + 1) es s → (d.interval < length h) ⊎ (length h ≤ d.interval) → (s : Process) × Reaches program own n h s × HasAll place base (d ∷ es) s
    go rest (inl lt) =
        let s = split_at d.interval h lt in
        both program own n place base h d es rest.0 rest.0 rest.1 rest.1 rest.2
        (made_stays program own n place base (take d.interval h) s.1 s.0 d rest.0 first.1 (subst (λ l. Reaches program own n l rest.0) s.2 rest.1))
    go rest (inr ge) =
        let m : Makes program own n place base d h = subst (Makes program own n place base d) (take_all d.interval h ge) first.1 in
        both program own n place base h d es rest.0 m.0 rest.1 m.1 rest.2 m.2

-- ---- receipts of a legal list lead somewhere
leads_more_in : (images : List Program) (p : ℕ) (before : List Entry) (e : Entry) → (a : Process) × Leads p (length images) (received p before) (started (program_at images p) (length images)) a → MayFollow images before e
    → (a : Process) × Leads p (length images) (received p (before ++ e ∷ [])) (started (program_at images p) (length images)) a
leads_more_in images p before e a m = subst (λ h. (a : Process) × Leads p (length images) h (started (program_at images p) (length images)) a) (sym (received_more p before e)) (go (nat_eq e.to p) refl)
  where
    go : (b : Bool) → nat_eq e.to p ≡ b → (a : Process) × Leads p (length images) (if nat_eq e.to p then received p before ++ receipt_of e ∷ [] else received p before) (started (program_at images p) (length images)) a
    go true eb =
        let is : e.to ≡ p = grind (arith, nat_tests) in
        let w : LeadsToWait (program_at images p) p (length images) (received p before) = subst (λ q. LeadsToWait (program_at images q) q (length images) (received q before)) is m.waits in
        rw eb (delivered p w.0 (receipt_of e), leads_more p (length images) (received p before) w.1.0 (started (program_at images p) (length images)) w.0 (receipt_of e) w.1.1 w.2)
    go false eb = rw eb a

leads_after : (images : List Program) (p : ℕ) (before es : List Entry) → (a : Process) × Leads p (length images) (received p before) (started (program_at images p) (length images)) a → LegalAfter images before es
    → (a : Process) × Leads p (length images) (received p (before ++ es)) (started (program_at images p) (length images)) a
leads_after images p before [] a l = subst (λ es. (a : Process) × Leads p (length images) (received p es) (started (program_at images p) (length images)) a) (sym (append_none before)) a
leads_after images p before (e ∷ es) a l = subst (λ es. (a : Process) × Leads p (length images) (received p es) (started (program_at images p) (length images)) a) (append_apart before (e ∷ []) es) (leads_after images p (before ++ e ∷ []) es (leads_more_in images p before e a l.0) l.1)

pub reaches_legal : (images : List Program) (p : ℕ) (es : List Entry) → Legal images es → (a : Process) × Reaches (program_at images p) p (length images) (received p es) a
reaches_legal images p es l = let a = leads_after images p [] es (started (program_at images p) (length images), refl) (legal_after images [] es l) in (a.0, (0, (a.0, a.1, refl)))

-- outputs that are each made at their interval are the first outputs of one state along the process's receipts
pub released_first : (images : List Program) (p : ℕ) (es : List Entry) (outputs : List QueueEntry) → Legal images es
    → ((i : ℕ) (e : QueueEntry) → slice_get outputs i ≡ Some e → AtInterval (received p es) e.interval (Makes (program_at images p) p (length images) (length images) i e))
    → (s : Process) × Reaches (program_at images p) p (length images) (received p es) s × ((i : ℕ) (e : QueueEntry) → slice_get outputs i ≡ Some e → HasEntry s.queues (length images) i e)
released_first images p es outputs l all =
    let m = made_first (program_at images p) p (length images) (length images) 0 (received p es) outputs (reaches_legal images p es l) (λ i e at. subst (λ k. AtInterval (received p es) e.interval (Makes (program_at images p) p (length images) (length images) k e)) (none i) (all i e at)) in
    (m.0, m.1, λ i e at. subst (λ k. HasEntry m.0.queues (length images) k e) (sym (none i)) (m.2 i e at))
  where
    none : (i : ℕ) → i ≡ 0 + i
    none i = omega arith
