-- True records are replayed to their end, from a part too.
use Rattle.std.proofs.Common.{◌≡◌, ℕ, zero, suc, ◌+◌, List, [], ◌∷◌, ◌++◌, ◌<◌, ◌≤◌, ◌⊎◌, inl, inr, length, drop, take, Some, refl, sym, ap, ◌∙◌, subst, arith}
use Rattle.std.specs.Prelude.{min, ◌-◌, slice_index}
use Rattle.std.proofs.lemmas.List.{append_assoc, append-nil, take-append-drop, length-take-le, length-append}
use Rattle.std.proofs.Math.Seq.{append_snoc}
use Rattle.om_format.specs.declared.queue.QueueEntry.{QueueEntry}
use Rattle.om_format.specs.Queues.{QueueRecord}
use Rattle.om_format.specs.Receipts.{ReceiptRecord}
use Rattle.om_process.specs.Process.{Process, Received, Program, Move, Waits, Ends, Traps, Goes, Emits, made, moved, delivered, emitted, started}
use Rattle.om_process.specs.Turns.{next_move, next_turn, Turns, IsWaiting}
use Rattle.om_process.specs.Replays.{Replayed, FitsReceipt, received_of}
use Rattle.om_process.specs.steps.Pieces.{receipts_of, KeepQueues}
use Rattle.om_process.specs.Parts.{IsTrimmedQueue, IsTrimmed}
use Rattle.om_process.specs.Trims.{trimmed_queue, trimmed_queues, trimmed}
use Rattle.om_process.specs.Claims.{CheckpointOf, RecordsAlong}
use Rattle.om_process.proofs.Runs.{leads_once, leads_more, one_turn, no_turn, turns_then}
use Rattle.om_process.proofs.Parts.{keep_emitted, with_queues, same_move, keeps_turns, keeps_waits, keeps_delivered}
use Rattle.om_process.specs.steps.Fitting.{DoesNotFit}
use Rattle.om_process.proofs.Basics.{some_once, some_none}
use Rattle.om_process.proofs.Going.{stays_turns}

-- each state on the way to a wait goes on to it
pub turns_to_wait : (own n j k : ℕ) (a w c : Process) → Turns own n j a w → IsWaiting own n w → Turns own n k a c → (i : ℕ) × Turns own n i c w
turns_to_wait own n j zero a w c t is u = (j, subst (λ x. Turns own n j x w) (sym u) t)
turns_to_wait own n zero (suc k) a w c t is u = absurd (no_turn own n a u.0 (subst (IsWaiting own n) t is) u.1)
turns_to_wait own n (suc j) (suc k) a w c t is u = turns_to_wait own n j k t.0 w c t.2 is (subst (λ m. Turns own n k m c) (one_turn own n a u.0 t.0 u.1 t.1) u.2)

-- ---- a turn of the whole is a turn of the part
part_moved : (whole : Process) (queues : List QueueRecord) (next : Process) (move : Move) → KeepQueues whole.queues queues → moved whole move ≡ Some next
    → (p : Process) × (moved (with_queues whole queues) move ≡ Some p) × IsTrimmed next p
part_moved whole queues next Waits p e = absurd (some_none next (sym e))
part_moved whole queues next (Ends code) p e = absurd (some_none next (sym e))
part_moved whole queues next (Traps cause) p e = absurd (some_none next (sym e))
part_moved whole queues next (Goes m) p e =
    let d : Process = record { machine = m; interval = whole.interval; vec = whole.vec; got = whole.got; queues = queues } in
    (d, refl, subst (λ (w : Process). IsTrimmed w d) (some_once _ next e) (record { same = refl; queues = p }))
part_moved whole queues next (Emits j body m) p e =
    let item : QueueEntry = record { interval = whole.interval; body = body } in
    let d : Process = record { machine = m; interval = whole.interval; vec = whole.vec; got = whole.got; queues = emitted j item queues } in
    (d, refl, subst (λ (w : Process). IsTrimmed w d) (some_once _ next e) (record { same = refl; queues = keep_emitted j item whole.queues queues p }))

pub part_turn : (own n : ℕ) (whole part next : Process) → IsTrimmed whole part → next_turn own n whole ≡ Some next → (p : Process) × (next_turn own n part ≡ Some p) × IsTrimmed next p
part_turn own n whole part next keeps e =
    let m = part_moved whole part.queues next (next_move own n whole.machine (made whole.queues)) keeps.queues e in
    (m.0, ap (moved part) (same_move own n whole part keeps) ∙ ap (λ (p : Process). moved p (next_move own n whole.machine (made whole.queues))) keeps.same ∙ m.1, m.2)

pub part_turns : (own n k : ℕ) (whole part next : Process) → IsTrimmed whole part → Turns own n k whole next → (p : Process) × Turns own n k part p × IsTrimmed next p
part_turns own n zero whole part next keeps e = (part, refl, subst (λ (w : Process). IsTrimmed w part) (sym e) keeps)
part_turns own n (suc k) whole part next keeps e =
    let a = part_turn own n whole part e.0 keeps e.1 in
    let b = part_turns own n k e.0 a.0 next a.2 e.2 in
    (b.0, (a.0, a.1, b.1), b.2)

pub part_fits : (own n : ℕ) (whole part : Process) (r : ReceiptRecord) → IsTrimmed whole part → FitsReceipt own n whole r → FitsReceipt own n part r
part_fits own n whole part r keeps f = record {
  to = f.to;
  from = f.from;
  interval = f.interval ∙ ap (λ (p : Process). p.interval + 1) (sym keeps.same);
  number = f.number ∙ ap (λ (p : Process). slice_index p.got r.from) (sym keeps.same);
  count = f.count ∙ ap (λ (p : Process). p.machine.count) (sym keeps.same);
  waits = same_move own n whole part keeps ∙ f.waits;
}

-- ---- from a checkpoint along the way, true records are replayed
pub replays : (program : Program) (own n : ℕ) (c : Process) (h : List Received) (rs : List ReceiptRecord) → CheckpointOf program own n c h → RecordsAlong program own n h rs → (t : Process) × Replayed own n c rs t
replays program own n c h [] a r = (c, refl)
replays program own n c h (s ∷ rs) a r =
    let whole = a.0 in let k = a.1.0 in let u = a.1.1 in
    let w = r.0.0 in let j = r.0.1.0 in let v = r.0.1.1 in
    let fits = r.0.2 in
    let same = leads_once own n h (started program n) u.0 v.0 u.1 v.1 in
    let on = turns_to_wait own n j k u.0 w whole (subst (λ x. Turns own n j x w) (sym same) v.2) fits.waits u.2 in
    let p = part_turns own n on.0 whole c w a.2 on.1 in
    let d = delivered own w (received_of s) in
    let rest = replays program own n (delivered own p.0 (received_of s)) (h ++ received_of s ∷ []) rs (d, (0, (d, leads_more own n h j (started program n) w (received_of s) v fits.waits, refl)), keeps_delivered own w p.0 (received_of s) p.2) r.1 in
    (rest.0, (on.0, p.0, p.1, part_fits own n w p.0 s p.2 fits, rest.1))

-- and what is replayed stands along the longer receipts
pub replayed_along : (program : Program) (own n : ℕ) (c t : Process) (h : List Received) (rs : List ReceiptRecord) → CheckpointOf program own n c h → Replayed own n c rs t → CheckpointOf program own n t (h ++ receipts_of rs)
replayed_along program own n c t h [] a e = subst (λ (p : Process). CheckpointOf program own n p (h ++ [])) (sym e) (subst (CheckpointOf program own n c) (sym (append-nil h)) a)
replayed_along program own n c t h (r ∷ rs) a e =
    let w = keeps_turns own n e.0 a.0 c e.1 a.2 e.2 in
    let on = turns_then own n a.1.0 e.0 a.1.1.0 a.0 w.0 a.1.1.2 w.1 in
    let d = delivered own w.0 (received_of r) in
    subst (CheckpointOf program own n t) (append_snoc h (received_of r) (receipts_of rs))
    (replayed_along program own n (delivered own e.1 (received_of r)) t (h ++ received_of r ∷ []) rs
    (d, (0, (d, leads_more own n h on.0 (started program n) w.0 (received_of r) (a.1.1.0, a.1.1.1, on.1) (keeps_waits own n w.0 e.1 w.2 e.3.waits), refl)), keeps_delivered own w.0 e.1 (received_of r) w.2) e.4)

-- ---- trimming
keeps_trimmed : (bound : ℕ) (f q : QueueRecord) → IsTrimmedQueue f q → IsTrimmedQueue f (trimmed_queue bound q)
keeps_trimmed bound f q keeps =
    let k = min (bound - q.first) (length q.entries) in
    let l : length (take k q.entries) ≡ k = length-take-le k q.entries (omega arith) in
    let m : length (keeps.0 ++ take k q.entries) ≡ length keeps.0 + length (take k q.entries) = length-append keeps.0 (take k q.entries) in
    let first : q.first ≡ f.first + length keeps.0 = keeps.2 in
    (keeps.0 ++ take k q.entries, keeps.1 ∙ ap (λ l. keeps.0 ++ l) (sym (take-append-drop k q.entries)) ∙ sym (append_assoc keeps.0 (take k q.entries) (drop k q.entries)), omega arith)

keep_trimmed : (bounds : List ℕ) (fs qs : List QueueRecord) → KeepQueues fs qs → KeepQueues fs (trimmed_queues bounds qs)
keep_trimmed [] fs qs k = k
keep_trimmed (b ∷ bounds) [] [] k = tt
keep_trimmed (b ∷ bounds) [] (q ∷ qs) k = absurd k
keep_trimmed (b ∷ bounds) (f ∷ fs) [] k = absurd k
keep_trimmed (b ∷ bounds) (f ∷ fs) (q ∷ qs) k = (keeps_trimmed b f q k.0, keep_trimmed bounds fs qs k.1)

pub keeps_trim : (bounds : List ℕ) (whole part : Process) → IsTrimmed whole part → IsTrimmed whole (trimmed bounds part)
keeps_trim bounds whole part keeps = record { same = ap (λ (p : Process). with_queues p (trimmed_queues bounds part.queues)) keeps.same; queues = keep_trimmed bounds whole.queues part.queues keeps.queues }

-- ---- a receipt fits or does not
pub fits_not_both : (own n k : ℕ) (s w : Process) (r : ReceiptRecord) → Turns own n k s w → FitsReceipt own n w r → DoesNotFit own n s r → ⊥
fits_not_both own n k s w r turns f (inl other) = other f.to
fits_not_both own n k s w r turns f (inr (inl stranger)) =
    let there : r.from < n = f.from in
    absurd (omega arith)
fits_not_both own n k s w r turns f (inr (inr (inl number))) = number (f.number ∙ ap (λ (p : Process). slice_index p.got r.from) (stays_turns own n k s w turns))
fits_not_both own n k s w r turns f (inr (inr (inr waits))) = waits (k, w, turns, f.waits, sym f.count)

pub fits_at_wait : (own n k : ℕ) (s w : Process) (r : ReceiptRecord)
    → r.to ≡ own → r.from < n → r.ssn ≡ slice_index s.got r.from → r.interval ≡ s.interval + 1
    → Turns own n k s w → IsWaiting own n w → w.machine.count ≡ r.count → FitsReceipt own n w r
fits_at_wait own n k s w r to from number interval turns waits count =
    let stays = stays_turns own n k s w turns in
    record {
      to = to;
      from = from;
      interval = interval ∙ ap (λ (p : Process). p.interval + 1) (sym stays);
      number = number ∙ ap (λ (p : Process). slice_index p.got r.from) (sym stays);
      count = sym count;
      waits = waits;
    }
