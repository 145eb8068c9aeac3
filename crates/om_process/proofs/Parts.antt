-- A process that keeps only the last entries of its queues goes on as the whole one does.
use Rattle.std.proofs.Common.{◌≡◌, ℕ, zero, suc, ◌+◌, List, [], ◌∷◌, ◌++◌, length, Some, refl, sym, ap, ◌∙◌, subst, arith, length-append}
use Rattle.std.proofs.lemmas.List.{append_assoc}
use Rattle.om_format.specs.declared.queue.QueueEntry.{QueueEntry}
use Rattle.om_format.specs.Queues.{QueueRecord, queue_end}
use Rattle.om_process.specs.Process.{Process, Received, Move, Waits, Ends, Traps, Goes, Emits, made, moved, delivered, emitted}
use Rattle.om_process.specs.Turns.{next_move, next_turn, Turns, IsWaiting}
use Rattle.om_process.specs.Parts.{IsTrimmedQueue, IsTrimmed}
use Rattle.om_process.specs.steps.Pieces.{KeepQueues}
use Rattle.om_process.proofs.Basics.{some_once, some_none}

same_end : (f q : QueueRecord) → IsTrimmedQueue f q → queue_end q ≡ queue_end f
same_end f q keeps =
    let e : length f.entries ≡ length keeps.0 + length q.entries = ap length keeps.1 ∙ length-append keeps.0 q.entries in
    let g : q.first ≡ f.first + length keeps.0 = keeps.2 in
    omega arith

-- the part has made what the whole has
pub made_same : (fs qs : List QueueRecord) → KeepQueues fs qs → made qs ≡ made fs
made_same [] [] keep = refl
made_same [] (q ∷ qs) keep = absurd keep
made_same (f ∷ fs) [] keep = absurd keep
made_same (f ∷ fs) (q ∷ qs) keep = ap (λ e. e ∷ made qs) (same_end f q keep.0) ∙ ap (λ es. queue_end f ∷ es) (made_same fs qs keep.1)

pub keep_emitted : (j : ℕ) (e : QueueEntry) (fs qs : List QueueRecord) → KeepQueues fs qs → KeepQueues (emitted j e fs) (emitted j e qs)
keep_emitted j e [] [] p = tt
keep_emitted j e [] (q ∷ qs) p = absurd p
keep_emitted j e (f ∷ fs) [] p = absurd p
keep_emitted zero e (f ∷ fs) (q ∷ qs) p = ((p.0.0, ap (λ l. l ++ e ∷ []) p.0.1 ∙ append_assoc p.0.0 q.entries (e ∷ []), p.0.2), p.1)
keep_emitted (suc j) e (f ∷ fs) (q ∷ qs) p = (p.0, keep_emitted j e fs qs p.1)

-- the whole with these queues
abbrev pub with_queues : Process → List QueueRecord → Process
with_queues whole queues = record { machine = whole.machine; interval = whole.interval; vec = whole.vec; got = whole.got; queues = queues }

keeps_moved : (whole : Process) (queues : List QueueRecord) (next : Process) (move : Move) → KeepQueues whole.queues queues → moved (with_queues whole queues) move ≡ Some next
    → (w : Process) × (moved whole move ≡ Some w) × IsTrimmed w next
keeps_moved whole queues next Waits p e = absurd (some_none next (sym e))
keeps_moved whole queues next (Ends code) p e = absurd (some_none next (sym e))
keeps_moved whole queues next (Traps cause) p e = absurd (some_none next (sym e))
keeps_moved whole queues next (Goes m) p e =
    let w : Process = record { machine = m; interval = whole.interval; vec = whole.vec; got = whole.got; queues = whole.queues } in
    (w, refl, subst (IsTrimmed w) (some_once _ next e) (record { same = refl; queues = p }))
keeps_moved whole queues next (Emits j body m) p e =
    let item : QueueEntry = record { interval = whole.interval; body = body } in
    let w : Process = record { machine = m; interval = whole.interval; vec = whole.vec; got = whole.got; queues = emitted j item whole.queues } in
    (w, refl, subst (IsTrimmed w) (some_once _ next e) (record { same = refl; queues = keep_emitted j item whole.queues queues p }))

pub same_move : (own n : ℕ) (whole part : Process) → IsTrimmed whole part → next_move own n part.machine (made part.queues) ≡ next_move own n whole.machine (made whole.queues)
same_move own n whole part keeps = ap (λ (p : Process). next_move own n p.machine (made part.queues)) keeps.same ∙ ap (next_move own n whole.machine) (made_same whole.queues part.queues keeps.queues)

-- a turn of a part is a turn of the whole
pub keeps_turn : (own n : ℕ) (whole part next : Process) → IsTrimmed whole part → next_turn own n part ≡ Some next → (w : Process) × (next_turn own n whole ≡ Some w) × IsTrimmed w next
keeps_turn own n whole part next keeps e =
    keeps_moved whole part.queues next (next_move own n whole.machine (made whole.queues)) keeps.queues
    (sym (ap (λ (p : Process). moved p (next_move own n whole.machine (made whole.queues))) keeps.same) ∙ ap (moved part) (sym (same_move own n whole part keeps)) ∙ e)

pub keeps_turns : (own n : ℕ) (k : ℕ) (whole part next : Process) → IsTrimmed whole part → Turns own n k part next → (w : Process) × Turns own n k whole w × IsTrimmed w next
keeps_turns own n zero whole part next keeps e = (whole, refl, subst (IsTrimmed whole) (sym e) keeps)
keeps_turns own n (suc k) whole part next keeps e =
    let a = keeps_turn own n whole part e.0 keeps e.1 in
    let b = keeps_turns own n k a.0 e.0 next a.2 e.2 in
    (b.0, (a.0, a.1, b.1), b.2)

pub keeps_waits : (own n : ℕ) (whole part : Process) → IsTrimmed whole part → IsWaiting own n part → IsWaiting own n whole
keeps_waits own n whole part keeps w = sym (same_move own n whole part keeps) ∙ w

pub keeps_delivered : (own : ℕ) (whole part : Process) (r : Received) → IsTrimmed whole part → IsTrimmed (delivered own whole r) (delivered own part r)
keeps_delivered own whole part r keeps = record { same = ap (λ s. delivered own s r) keeps.same; queues = keeps.queues }
