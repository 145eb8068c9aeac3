-- The rows that true records stand for are true.
use Rattle.std.proofs.Common.{◌≡◌, ℕ, zero, suc, ◌+◌, ◌≤◌, List, [], ◌∷◌, ◌++◌, length, take, set, get_or, Some, None, Option, refl, sym, ap, ◌∙◌, subst, arith}
use Rattle.std.specs.Prelude.{slice_get, slice_index, min}
use Rattle.std.specs.FinMap.{get}
use Rattle.std.proofs.lemmas.List.{length-take-le}
use Rattle.om_format.specs.Checkpoints.{CheckpointRecord}
use Rattle.om_format.specs.Receipts.{ReceiptRecord}
use Rattle.om_look.specs.Rows.{AreRowsOf, AreSegments, FollowOn, base_row, interval_before, next_row, receipts_behind, rows_of_segments}
use Rattle.om_process.specs.Claims.{AtInterval, CheckpointOf, RecordOf, RowOf}
use Rattle.om_process.specs.Dependencies.{Counts, Depends}
use Rattle.om_process.specs.Process.{Process, Program, Received, delivered, raised, started}
use Rattle.om_process.specs.Replays.{process_of_checkpoint, received_of}
use Rattle.om_process.specs.Stored.{IsCheckpointAt, IsReceiptAt}
use Rattle.om_process.specs.Turns.{Reaches}
use Rattle.om_process.specs.declared.limits.TheConstants.{LAST_INTERVAL}
use Rattle.om_process.specs.declared.row.PendingRow.{PendingRow}
use Rattle.om_process.proofs.Making.{interval_along}
use Rattle.om_process.proofs.Runs.{leads_more}
use Rattle.om_process.proofs.Vectors.{row_along}
use Rattle.om_stable.specs.Content.{Content, Records}
use Rattle.om_stable.proofs.BetweenLemmas.{between-AreAllBetween}

-- what each of some rows has
abbrev pub Each : (PendingRow → Type 0) → List PendingRow → Type 0
Each P [] = Unit {0}
Each P (row ∷ rows) = P row × Each P rows

pub each_append : (P : PendingRow → Type 0) (a b : List PendingRow) → Each P a → Each P b → Each P (a ++ b)
each_append P [] b x y = y
each_append P (row ∷ a) b x y = (x.0, each_append P a b x.1 y)

pub each_at : (P : PendingRow → Type 0) (rows : List PendingRow) (i : ℕ) (row : PendingRow) → Each P rows → slice_get rows i ≡ Some row → P row
each_at P [] i row all at = cc
each_at P (x ∷ rows) zero row all at = let same : x ≡ row = cc in subst P same all.0
each_at P (x ∷ rows) (suc i) row all at = each_at P rows i row all.1 at

-- the row is true of these receipts of process own of n
abbrev pub IsTrueRow : ℕ → ℕ → List Received → PendingRow → Type 0
IsTrueRow own n h row = AtInterval h row.x (RowOf own n row.vec row.got)

-- ---- a checkpoint
pub base_true : (program : Program) (own n : ℕ) (h : List Received) (c : CheckpointRecord) → AtInterval h c.head.interval (CheckpointOf program own n (process_of_checkpoint c)) → IsTrueRow own n h (base_row c)
base_true program own n h c at =
    let whole = at.1.0 in
    let row = row_along program own n (take c.head.interval h) whole at.1.1 in
    let same = at.1.2.same in (
      at.0,
      (ap (λ (p : Process). p.vec) same ∙ row.0, ap (λ (p : Process). p.got) same ∙ row.1),
    )

-- ---- a receipt behind a true row
pub front_of : (x : ℕ) (h front : List Received) (r : Received) → suc x ≤ length h → take (suc x) h ≡ front ++ r ∷ [] → front ≡ take x h
front_of x [] front r le is = absurd (omega arith)
front_of zero (y ∷ h) [] r le is = refl
front_of zero (y ∷ h) (z ∷ []) r le is = cc
front_of zero (y ∷ h) (z ∷ w ∷ front) r le is = cc
front_of (suc x) (y ∷ h) [] r le is = absurd (none x h le (cc))
  where
    none : (x : ℕ) (h : List Received) → suc (suc x) ≤ length (y ∷ h) → take (suc x) h ≡ [] → ⊥
    none x [] le is = omega arith
    none x (z ∷ h) le is = cc
front_of (suc x) (y ∷ h) (z ∷ front) r le is =
    let head : y ≡ z = cc in
    let rest : take (suc x) h ≡ front ++ r ∷ [] = cc in
    ap (λ d. d ∷ front) (sym head) ∙ ap (λ l. y ∷ l) (front_of x h front r (omega arith) rest)

-- a true row is that of the process to which the receipt of the next interval comes
record ComesTo (own n : ℕ) (h : List Received) (before : PendingRow) (w : Process) : Type 0 where
  interval : w.interval ≡ before.x
  vec : before.vec ≡ w.vec
  got : before.got ≡ w.got

comes_to : (program : Program) (own n : ℕ) (h : List Received) (before : PendingRow) (r : ReceiptRecord)
    → IsTrueRow own n h before → (at : AtInterval h (before.x + 1) (RecordOf program own n r)) → ComesTo own n h before at.1.2
comes_to program own n h before r old at =
    let x : ℕ = before.x in
    let one : before.x + 1 ≡ suc x = omega arith in
    let front = at.1.0 in
    let is : take (suc x) h ≡ front ++ received_of r ∷ [] = ap (λ k. take k h) (sym one) ∙ at.1.1 in
    let same : front ≡ take x h = front_of x h front (received_of r) (omega arith) is in
    let w = at.1.2 in
    let reaches = at.1.3 in
    let long : w.interval ≡ length front = interval_along program own n reaches.0 front w reaches.1 in
    let many : length (take x h) ≡ x = length-take-le x h (omega arith) in
    let row = row_along program own n front w reaches in
    record {
      interval = long ∙ ap length same ∙ many;
      vec = old.1.0 ∙ ap (Depends n own) (sym same) ∙ sym row.0;
      got = old.1.1 ∙ ap (Counts n) (sym same) ∙ sym row.1;
    }

-- so its number is the next one of its sender
pub next_number : (program : Program) (own n : ℕ) (h : List Received) (before : PendingRow) (r : ReceiptRecord)
    → IsTrueRow own n h before → AtInterval h (before.x + 1) (RecordOf program own n r) → r.ssn ≡ slice_index before.got r.from
next_number program own n h before r old at =
    let c = comes_to program own n h before r old at in
    at.1.4.number ∙ ap (λ g. slice_index g r.from) (sym c.got)

-- the receipt of the next interval makes the row of that interval
pub next_true : (program : Program) (own n : ℕ) (h : List Received) (before : PendingRow) (r : ReceiptRecord)
    → IsTrueRow own n h before → AtInterval h (before.x + 1) (RecordOf program own n r) → IsTrueRow own n h (next_row own before r)
next_true program own n h before r old at =
    let c = comes_to program own n h before r old at in
    let front = at.1.0 in
    let w = at.1.2 in
    let reaches = at.1.3 in
    let fits = at.1.4 in
    let d : Process = delivered own w (received_of r) in
    let on : Reaches program own n (front ++ received_of r ∷ []) d = (0, (d, leads_more own n front reaches.0 (started program n) w (received_of r) reaches.1 fits.waits, refl)) in
    let new = row_along program own n (front ++ received_of r ∷ []) d on in (
      at.0,
      (
        ap (λ v. set (raised v r.from r.sender_interval) own (before.x + 1)) c.vec
            ∙ ap (λ k. set (raised w.vec r.from r.sender_interval) own (k + 1)) (sym c.interval)
            ∙ new.0 ∙ ap (Depends n own) (sym at.1.1),
        ap (λ v. set v r.from (get_or v r.from 0 + 1)) c.got ∙ new.1 ∙ ap (Counts n) (sym at.1.1),
      ),
    )

-- ---- receipts that follow on a row
-- records that lie between two intervals of a store
abbrev pub AreHeld : Records → List (ℕ × List ℕ) → Type 0
AreHeld held rows = (i : ℕ) (row : ℕ × List ℕ) → slice_get rows i ≡ Some row → get held row.0 ≡ Some row.1

follow_true : (program : Program) (own n : ℕ) (h : List Received) (held : Records) (before : PendingRow) (records : List (ℕ × List ℕ)) (rows : List PendingRow)
    → ((x : ℕ) (r : ReceiptRecord) → 1 ≤ x → IsReceiptAt held x r → AtInterval h x (RecordOf program own n r))
    → AreHeld held records → IsTrueRow own n h before → FollowOn own n before records rows → Each (IsTrueRow own n h) rows
follow_true program own n h held before records [] true_of there old on = tt
follow_true program own n h held before [] (row ∷ rows) true_of there old on = absurd on
follow_true program own n h held before (e ∷ records) (row ∷ rows) true_of there old on =
    let r = on.0 in
    let at : e.0 ≡ before.x + 1 = on.3 in
    let named : r.interval ≡ before.x + 1 = on.2.interval ∙ at in
    let kept : get held (before.x + 1) ≡ Some e.1 = subst (λ x. get held x ≡ Some e.1) at (there 0 e refl) in
    let fact = true_of (before.x + 1) r (omega arith) (e.1, kept, on.1, named) in
    let new : IsTrueRow own n h row = subst (IsTrueRow own n h) (sym on.5) (next_true program own n h before r old fact) in
    (new, follow_true program own n h held row records rows true_of (λ i row at. there (suc i) row at) new on.6)

-- ---- segments
segments_true : (program : Program) (own n : ℕ) (h : List Received) (held : Content) (o : Option ℕ) (segments : List (CheckpointRecord × List PendingRow))
    → ((x : ℕ) (c : CheckpointRecord) → IsCheckpointAt held.checkpoints x c → AtInterval h x (CheckpointOf program own n (process_of_checkpoint c)))
    → ((x : ℕ) (r : ReceiptRecord) → 1 ≤ x → IsReceiptAt held.receipts x r → AtInterval h x (RecordOf program own n r))
    → AreSegments own n held o segments → Each (IsTrueRow own n h) (rows_of_segments segments)
segments_true program own n h held None [] cs rs a = tt
segments_true program own n h held None (s ∷ more) cs rs a = absurd a
segments_true program own n h held (Some to) [] cs rs a = tt
segments_true program own n h held (Some to) (s ∷ more) cs rs a =
    let c = s.0 in
    let base = base_true program own n h c (cs c.head.interval c a.0.stored) in
    let between_all = between-AreAllBetween held.receipts c.head.interval (min (to + 1) LAST_INTERVAL) in
    let behind = follow_true program own n h held.receipts (base_row c) (receipts_behind held c.head.interval to) s.1 rs between_all.are_held base a.0.follow in
    each_append (IsTrueRow own n h) (base_row c ∷ s.1) (rows_of_segments more) (base, behind)
    (segments_true program own n h held (interval_before c.head.interval) more cs rs a.1)

-- the rows that true records stand for are true
pub store_true : (program : Program) (own n : ℕ) (h : List Received) (held : Content) (rows : List PendingRow)
    → ((x : ℕ) (c : CheckpointRecord) → IsCheckpointAt held.checkpoints x c → AtInterval h x (CheckpointOf program own n (process_of_checkpoint c)))
    → ((x : ℕ) (r : ReceiptRecord) → 1 ≤ x → IsReceiptAt held.receipts x r → AtInterval h x (RecordOf program own n r))
    → AreRowsOf own n held rows → (i : ℕ) (row : PendingRow) → slice_get rows i ≡ Some row → IsTrueRow own n h row
store_true program own n h held rows cs rs a i row at =
    each_at (IsTrueRow own n h) rows i row (subst (Each (IsTrueRow own n h)) (sym a.2) (segments_true program own n h held (Some LAST_INTERVAL) a.0 cs rs a.1)) at
