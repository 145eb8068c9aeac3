-- What a store gains, and what stays true.
use Rattle.std.proofs.Common.{◌≡◌, ◌≢◌, ◌⊎◌, inl, inr, ℕ, zero, suc, ◌+◌, ◌-◌, ◌≤◌, ◌<◌, List, [], ◌∷◌, ◌++◌, length, take, drop, map, set, Some, Bool, true, false, refl, sym, ap, ◌∙◌, subst, arith, append_assoc, length-append}
use Rattle.std.specs.Prelude.{slice_get, slice_index}
use Rattle.std.specs.FinMap.{get, insert}
use Rattle.std.proofs.lemmas.List.{take_all, take-append-drop}
use Rattle.om_interval.specs.Starts.{is_named, newest_of}
use Rattle.om_format.specs.Checkpoints.{CheckpointRecord, IsSpelled}
use Rattle.om_format.specs.Receipts.{SpellsReceipt}
use Rattle.om_format.specs.declared.version.Version.TheVariants.{V2}
use Rattle.om_stable.specs.Content.{Content}
use Rattle.om_stable.proofs.RecordLemmas.{get-insert_here, get-insert_apart, get-with_all_above, get-with_all_at, with_all_from, with_all_keeps}
use Rattle.om_process.specs.declared.row.PendingRow.{PendingRow}
use Rattle.om_process.specs.Process.{Process, Program, Received}
use Rattle.om_process.specs.Replays.{received_of, process_of_checkpoint}
use Rattle.om_process.specs.Core.{CoreState, LoggedRecord}
use Rattle.om_process.specs.Stores.{log_row, flushed_first, checkpointed, checkpoint_row, first_logged, HasGainedFirst, HasGainedCheckpoint}
use Rattle.om_process.specs.steps.Pieces.{SpellLog}
use Rattle.om_process.specs.Claims.{AtInterval, RowOf, CheckpointOf, RecordOf}
use Rattle.om_process.proofs.Flying.{whole_first}
use Rattle.om_process.proofs.Logging.{among_first, whole_flushed}
use Rattle.om_process.proofs.Making.{interval_along}
use Rattle.om_member.specs.declared.batch.Batch.{Batch}
use Rattle.om_member.specs.declared.batch.Batch.TheVariants as batches
use Rattle.om_recover.specs.declared.row.RowKind.{RowKind}
use Rattle.om_recover.specs.declared.row.RowKind.TheVariants.{Checkpoint, Log}
use Rattle.om_world.specs.declared.process_state.ProcessState.{ProcessState}
use Rattle.om_world.specs.Changes.{HasGained, stored}
use Rattle.om_world.specs.Failures.{HasNews}
use Rattle.om_world.specs.Live.{program_at}
use Rattle.om_world.specs.World.{Health, WorldState}
use Rattle.om_world.specs.steps.Past.{Past, past_of, history}
use Rattle.om_world.specs.steps.Sound.{HasBytes, HasShape, IsCoreOf, IsPending, IsRunning, IsStored, IsUpIn, KeptWithin, LogAlong, Runs, Sound, kind_of, receipts_in}
use Rattle.om_world.proofs.Kept.{remade, interval_is, row_of}
use Rattle.om_world.proofs.Lists.{at_change, either, once}

-- ---- the log by its places
spell_at : (ls : List LoggedRecord) (bs : List (List ℕ)) (i : ℕ) (b : List ℕ) → SpellLog ls bs → slice_get bs i ≡ Some b → (l : LoggedRecord) × (slice_get ls i ≡ Some l) × SpellsReceipt l.receipt b
spell_at [] [] i b s e = absurd (none i e)
  where
    none : (i : ℕ) → slice_get [] i ≡ Some b → ⊥
    none i e = cc
spell_at [] (c ∷ bs) i b s e = absurd s
spell_at (l ∷ ls) [] i b s e = absurd s
spell_at (l ∷ ls) (c ∷ bs) zero b s e = (l, refl, subst (SpellsReceipt l.receipt) (once c b e) s.0)
spell_at (l ∷ ls) (c ∷ bs) (suc i) b s e = spell_at ls bs i b s.1 e

spelled : (ls : List LoggedRecord) (bs : List (List ℕ)) (i : ℕ) (l : LoggedRecord) → SpellLog ls bs → slice_get ls i ≡ Some l → (b : List ℕ) × (slice_get bs i ≡ Some b)
spelled [] [] i l s e = absurd (none i e)
  where
    none : (i : ℕ) → slice_get [] i ≡ Some l → ⊥
    none i e = cc
spelled [] (c ∷ bs) i l s e = absurd s
spelled (d ∷ ls) [] i l s e = absurd s
spelled (d ∷ ls) (c ∷ bs) zero l s e = (c, refl)
spelled (d ∷ ls) (c ∷ bs) (suc i) l s e = spelled ls bs i l s.1 e

as_many : (ls : List LoggedRecord) (bs : List (List ℕ)) → SpellLog ls bs → length bs ≡ length ls
as_many [] [] s = refl
as_many [] (c ∷ bs) s = absurd s
as_many (l ∷ ls) [] s = absurd s
as_many (l ∷ ls) (c ∷ bs) s = ap suc (as_many ls bs s.1)

receipts_long : (ls : List LoggedRecord) → length (receipts_in ls) ≡ length ls
receipts_long [] = refl
receipts_long (l ∷ ls) = ap suc (receipts_long ls)

take_seam : (h : List Received) (r : Received) (rest : List Received) → take (length h + 0 + 1) (h ++ r ∷ rest) ≡ h ++ r ∷ []
take_seam [] r rest = refl
take_seam (x ∷ h) r rest = ap (λ k. take k (x ∷ h ++ r ∷ rest)) (next (length h)) ∙ ap (λ l. x ∷ l) (take_seam h r rest)
  where
    next : (n : ℕ) → suc n + 0 + 1 ≡ suc (n + 0 + 1)
    next n = omega arith

-- what the log has at a place
abbrev LoggedAt : Program → ℕ → ℕ → LoggedRecord → ℕ → List Received → Type 0
LoggedAt program own n l x h = (x ≤ length h) × (l.receipt.interval ≡ x) × RecordOf program own n l.receipt (take x h) × RowOf own n l.vec l.got (take x h)

log_at : (program : Program) (own n : ℕ) (h : List Received) (ls : List LoggedRecord) (i : ℕ) (l : LoggedRecord) → LogAlong program own n h ls → slice_get ls i ≡ Some l → LoggedAt program own n l (length h + i + 1) (h ++ receipts_in ls)
log_at program own n h [] i l a e = absurd (none i e)
  where
    none : (i : ℕ) → slice_get [] i ≡ Some l → ⊥
    none i e = cc
log_at program own n h (d ∷ ls) zero l a e = subst (λ (x : LoggedRecord). LoggedAt program own n x (length h + 0 + 1) (h ++ received_of d.receipt ∷ receipts_in ls)) (once d l e) first
  where
    seam : h ++ received_of d.receipt ∷ [] ≡ take (length h + 0 + 1) (h ++ received_of d.receipt ∷ receipts_in ls)
    seam = sym (take_seam h (received_of d.receipt) (receipts_in ls))

    first : LoggedAt program own n d (length h + 0 + 1) (h ++ received_of d.receipt ∷ receipts_in ls)
    first =
        let w = a.0 in
        let long = interval_along program own n w.1.0 h w.0 w.1.1 in let at = w.2.interval in
        let all : length (h ++ received_of d.receipt ∷ receipts_in ls) ≡ length h + length (received_of d.receipt ∷ receipts_in ls) = length-append h (received_of d.receipt ∷ receipts_in ls) in
        (omega arith, omega arith, (h, sym seam, w.0, w.1, w.2), subst (RowOf own n d.vec d.got) seam a.1)
log_at program own n h (d ∷ ls) (suc i) l a e =
    let more = log_at program own n (h ++ received_of d.receipt ∷ []) ls i l a.2 e in
    let long : length (h ++ received_of d.receipt ∷ []) ≡ length h + 1 = length-append h (received_of d.receipt ∷ []) in
    subst (λ x. LoggedAt program own n l x (h ++ received_of d.receipt ∷ receipts_in ls)) (next long) (subst (LoggedAt program own n l (length (h ++ received_of d.receipt ∷ []) + i + 1)) (apart h (received_of d.receipt) (receipts_in ls)) more)
  where
    next : length (h ++ received_of d.receipt ∷ []) ≡ length h + 1 → length (h ++ received_of d.receipt ∷ []) + i + 1 ≡ length h + suc i + 1
    next long = omega arith

    apart : (h : List Received) (r : Received) (g : List Received) → (h ++ r ∷ []) ++ g ≡ h ++ (r ∷ g)
    apart [] r g = refl
    apart (x ∷ h) r g = ap (λ l. x ∷ l) (apart h r g)

-- ---- a core whose log is stored
-- the first of the log's intervals
first_is : (v : Past) (p : ℕ) (held : Content) (c : CoreState) (r : IsRunning v p held c) → first_logged c ≡ length r.log.0 + 1
first_is v p held c r =
    let whole : r.state.0.interval ≡ length (history v p) = interval_along (program_at v.programs p) p (length v.programs) r.state.1.0 (history v p) r.state.0 r.state.1.1 in
    let part : c.now.interval ≡ r.state.0.interval = ap (λ (x : Process). x.interval) r.state.2.same in
    let all : length (history v p) ≡ length r.log.0 + length (receipts_in c.log) = ap length r.log.1 ∙ length-append r.log.0 (receipts_in c.log) in
    let many = receipts_long c.log in
    omega arith

logged_at : (v : Past) (p : ℕ) (held : Content) (c : CoreState) (r : IsRunning v p held c) (i : ℕ) (l : LoggedRecord) → slice_get c.log i ≡ Some l → LoggedAt (program_at v.programs p) p (length v.programs) l (first_logged c + i) (history v p)
logged_at v p held c r i l e =
    let f = first_is v p held c r in
    subst (LoggedAt (program_at v.programs p) p (length v.programs) l (first_logged c + i)) (sym r.log.1)
    (subst (λ x. LoggedAt (program_at v.programs p) p (length v.programs) l x (r.log.0 ++ receipts_in c.log)) (place (length r.log.0) (first_logged c) f) (log_at (program_at v.programs p) p (length v.programs) r.log.0 c.log i l r.log.2 e))
  where
    place : (n x : ℕ) → x ≡ n + 1 → n + i + 1 ≡ x + i
    place n x f = omega arith

gained_record : (kind : Batch) (c : CoreState) (a b : Content) (of : RowKind) (x : ℕ) → HasGained kind c a b → HasBytes a of x → HasBytes b of x
gained_record batches.Log c a b Checkpoint x g h = (h.0, ap (λ (d : Content). get d.checkpoints x) g.2 ∙ h.1)
gained_record batches.Log c a b Log x g h = let r = with_all_keeps a.receipts (first_logged c) g.0 x h in (r.0, ap (λ (d : Content). get d.receipts x) g.2 ∙ r.1)
gained_record (batches.First k) c a b Checkpoint x g h = (h.0, ap (λ (d : Content). get d.checkpoints x) g.2 ∙ h.1)
gained_record (batches.First k) c a b Log x g h = let r = with_all_keeps a.receipts (first_logged c) g.0 x h in (r.0, ap (λ (d : Content). get d.receipts x) g.2 ∙ r.1)
gained_record batches.Checkpoint c a b Log x g h = (h.0, ap (λ (d : Content). get d.receipts x) g.1.4 ∙ h.1)
gained_record batches.Checkpoint c a b Checkpoint x g h = elim (either x c.now.interval) [
  | inl same ↦ (g.1.2, ap (λ (d : Content). get d.checkpoints x) g.1.4 ∙ ap (get (insert a.checkpoints c.now.interval g.1.2)) same ∙ get-insert_here a.checkpoints c.now.interval g.1.2)
  | inr other ↦ (h.0, ap (λ (d : Content). get d.checkpoints x) g.1.4 ∙ get-insert_apart a.checkpoints c.now.interval g.1.2 x other ∙ h.1)
]

first_stored : (k : ℕ) (v : Past) (p : ℕ) (a b : Content) (c : CoreState) → HasGainedFirst k c a b → IsRunning v p a c → IsStored v p a → IsStored v p b
first_stored k v p a b c g r s = record {
  checkpoints = λ x bytes le at. s.checkpoints x bytes le (sym (ap (λ (d : Content). get d.checkpoints x) g.2) ∙ at);
  receipts = λ x bytes some le at. elim (with_all_from a.receipts (first_logged c) g.0 x bytes (sym (ap (λ (d : Content). get d.receipts x) g.2) ∙ at)) [
    | inl old ↦ s.receipts x bytes some le old
    | inr new ↦
        let l = spell_at (take k c.log) g.0 new.0 bytes g.1 new.2 in
        let is = logged_at v p a c r new.0 l.0 (among_first k c.log new.0 l.0 l.1) in
        (l.0.receipt, l.2, (le, subst (λ y. RecordOf (program_at v.programs p) p (length v.programs) l.0.receipt (take y (history v p))) (sym new.1) is.2))
  ];
}

-- a row is one of the older ones, or one of the log
row_at : (rows : List PendingRow) (ls : List LoggedRecord) (i : ℕ) (row : PendingRow) → slice_get (rows ++ map log_row ls) i ≡ Some row → (slice_get rows i ≡ Some row) ⊎ ((j : ℕ) × (l : LoggedRecord) × (slice_get ls j ≡ Some l) × (row ≡ log_row l))
row_at [] [] i row e = inl e
row_at [] (l ∷ ls) zero row e = inr (0, l, refl, sym (once (log_row l) row e))
row_at [] (l ∷ ls) (suc i) row e = elim (row_at [] ls i row e) [ inl old ↦ absurd (none i old) | inr new ↦ inr (suc new.0, new.1, new.2, new.3) ]
  where
    none : (i : ℕ) → slice_get [] i ≡ Some row → ⊥
    none i e = cc
row_at (x ∷ rows) ls zero row e = inl e
row_at (x ∷ rows) ls (suc i) row e = row_at rows ls i row e

nothing_more : (h : List Received) → h ≡ h ++ []
nothing_more [] = refl
nothing_more (r ∷ h) = ap (λ g. r ∷ g) (nothing_more h)

-- the log behind some of its receipts comes after those
receipts_parted : (k : ℕ) (ls : List LoggedRecord) → receipts_in ls ≡ receipts_in (take k ls) ++ receipts_in (drop k ls)
receipts_parted zero ls = refl
receipts_parted (suc k) [] = refl
receipts_parted (suc k) (l ∷ ls) = ap (λ rs. received_of l.receipt ∷ rs) (receipts_parted k ls)

along_behind : (program : Program) (own n k : ℕ) (h : List Received) (ls : List LoggedRecord) → LogAlong program own n h ls → LogAlong program own n (h ++ receipts_in (take k ls)) (drop k ls)
along_behind program own n zero h ls a = subst (λ g. LogAlong program own n g ls) (nothing_more h) a
along_behind program own n (suc k) h [] a = tt
along_behind program own n (suc k) h (l ∷ ls) a = subst (λ g. LogAlong program own n g (drop k ls)) (append_assoc h (received_of l.receipt ∷ []) (receipts_in (take k ls))) (along_behind program own n k (h ++ received_of l.receipt ∷ []) ls a.2)

first_running : (k : ℕ) (v : Past) (p : ℕ) (a b : Content) (c : CoreState) → HasGainedFirst k c a b → IsRunning v p a c → IsRunning v p b (flushed_first k c)
first_running k v p a b c g r = record {
  state = r.state;
  kept = r.kept;
  log = (
    r.log.0 ++ receipts_in (take k c.log),
    r.log.1 ∙ ap (λ rs. r.log.0 ++ rs) (receipts_parted k c.log) ∙ sym (append_assoc r.log.0 (receipts_in (take k c.log)) (receipts_in (drop k c.log))),
    along_behind (program_at v.programs p) p (length v.programs) k r.log.0 c.log r.log.2,
  );
  pending = λ i row e. elim (row_at c.pending (take k c.log) i row e) [
    | inl old ↦ let was = r.pending i row old in record { row_of = was.row_of; begun = was.begun; backed = elim was.backed [ inl has ↦ inl (gained_record (batches.First k) c a b (kind_of row) row.x g has) | inr is ↦ inr is ] }
    | inr new ↦
        let is = logged_at v p a c r new.0 new.1 (among_first k c.log new.0 new.1 new.2) in
        let bytes = spelled (take k c.log) g.0 new.0 new.1 g.1 new.2 in
        let here : get b.receipts (first_logged c + new.0) ≡ Some bytes.0 = ap (λ (d : Content). get d.receipts (first_logged c + new.0)) g.2 ∙ get-with_all_at a.receipts (first_logged c) g.0 new.0 bytes.0 bytes.1 in
        let f = first_is v p a c r in let at = is.1 in
        subst (λ (x : PendingRow). IsPending v p b x) (sym new.3) (record {
          row_of = subst (λ y. AtInterval (history v p) y (RowOf p (length v.programs) new.1.vec new.1.got)) (sym is.1) (is.0, is.3);
          begun = λ _. omega arith;
          backed = inl (bytes.0, ap (get b.receipts) is.1 ∙ here);
        })
  ];
  above = record {
    receipts = λ y le. ap (λ (d : Content). get d.receipts y) g.2 ∙ get-with_all_above a.receipts (first_logged c) g.0 y (past y le) ∙ r.above.receipts y (low y le);
    checkpoints = λ y lt. ap (λ (d : Content). get d.checkpoints y) g.2 ∙ r.above.checkpoints y lt;
  };
}
  where
    parted : (j : ℕ) (ls : List LoggedRecord) → length ls ≡ length (take j ls) + length (drop j ls)
    parted j ls = ap length (sym (take-append-drop j ls)) ∙ length-append (take j ls) (drop j ls)

    past : (y : ℕ) → c.now.interval + 1 - length (drop k c.log) ≤ y → first_logged c + length g.0 ≤ y
    past y le =
        let f = first_is v p a c r in
        let now = interval_is v p a c r in
        let all : length (history v p) ≡ length r.log.0 + length (receipts_in c.log) = ap length r.log.1 ∙ length-append r.log.0 (receipts_in c.log) in
        let many = receipts_long c.log in let same = as_many (take k c.log) g.0 g.1 in
        let parts = parted k c.log in
        omega arith

    low : (y : ℕ) → c.now.interval + 1 - length (drop k c.log) ≤ y → first_logged c ≤ y
    low y le = let parts = parted k c.log in omega arith

-- what holds along all receipts holds at their number
at_all : (h : List Received) (x : ℕ) (P : List Received → Type 0) → x ≡ length h → P h → AtInterval h x P
at_all h x P is holds = (omega arith, subst P (sym (take_all x h (omega arith))) holds)

pub checkpoint_stored : (v : Past) (p : ℕ) (a b : Content) (c : CoreState) → IsCoreOf (length v.programs) p c → HasGainedCheckpoint c a b → IsRunning v p a c → IsStored v p a → IsStored v p b
checkpoint_stored v p a b c own g r s = record {
  checkpoints = λ x bytes le at. go x bytes le (sym (ap (λ (d : Content). get d.checkpoints x) g.4) ∙ at) (either x c.now.interval);
  receipts = λ x bytes some le at. s.receipts x bytes some le (sym (ap (λ (d : Content). get d.receipts x) g.4) ∙ at);
}
  where
    go : (x : ℕ) (bytes : List ℕ) → x ≤ length (history v p) → get (insert a.checkpoints c.now.interval g.2) x ≡ Some bytes → (x ≡ c.now.interval) ⊎ (x ≢ c.now.interval)
        → (d : CheckpointRecord) × IsSpelled d bytes × (d.head.pid ≡ p) × (d.n ≡ length v.programs) × AtInterval (history v p) x (CheckpointOf (program_at v.programs p) p (length v.programs) (process_of_checkpoint d)) × KeptWithin v p (process_of_checkpoint d).queues
    go x bytes le at (inr other) = s.checkpoints x bytes le (sym (get-insert_apart a.checkpoints c.now.interval g.2 x other) ∙ at)
    go x bytes le at (inl same) =
        let is : g.2 ≡ bytes = once g.2 bytes (sym (get-insert_here a.checkpoints c.now.interval g.2) ∙ ap (get (insert a.checkpoints c.now.interval g.2)) (sym same) ∙ at) in (
          g.0,
          subst (IsSpelled g.0) is (V2, g.3),
          g.1.pid ∙ own.own,
          g.1.n ∙ own.size,
          at_all (history v p) x (CheckpointOf (program_at v.programs p) p (length v.programs) (process_of_checkpoint g.0)) (same ∙ interval_is v p a c r) (subst (λ (d : Process). CheckpointOf (program_at v.programs p) p (length v.programs) d (history v p)) (sym g.1.process) r.state),
          subst (λ (d : Process). KeptWithin v p d.queues) (sym g.1.process) r.kept,
        )

apart_bools : true ≡ false → ⊥
apart_bools e = cc

row_last : (rows : List PendingRow) (new row : PendingRow) (i : ℕ) → slice_get (rows ++ new ∷ []) i ≡ Some row → (slice_get rows i ≡ Some row) ⊎ (row ≡ new)
row_last [] new row zero e = inr (sym (once new row e))
row_last [] new row (suc i) e = absurd (none i e)
  where
    none : (i : ℕ) → slice_get [] i ≡ Some row → ⊥
    none i e = cc
row_last (x ∷ rows) new row zero e = inl e
row_last (x ∷ rows) new row (suc i) e = row_last rows new row i e

pub checkpoint_running : (v : Past) (p : ℕ) (a b : Content) (c : CoreState) → HasGained batches.Checkpoint c a b → IsRunning v p a c → IsRunning v p b (checkpointed c)
checkpoint_running v p a b c g r = record {
  state = r.state;
  kept = r.kept;
  log = r.log;
  pending = λ i row e. elim (row_last c.pending (checkpoint_row c) row i e) [
    | inl old ↦ let k = r.pending i row old in record { row_of = k.row_of; begun = k.begun; backed = elim k.backed [ inl has ↦ inl (gained_record batches.Checkpoint c a b (kind_of row) row.x g has) | inr is ↦ inr is ] }
    | inr new ↦ subst (λ (x : PendingRow). IsPending v p b x) (sym new) (record {
      row_of = at_all (history v p) c.now.interval (RowOf p (length v.programs) c.now.vec c.now.got) (interval_is v p a c r) (row_of (program_at v.programs p) p (length v.programs) c.now (history v p) r.state);
      begun = λ e. absurd (apart_bools e);
      backed = inl (g.1.2, ap (λ (d : Content). get d.checkpoints c.now.interval) g.1.4 ∙ get-insert_here a.checkpoints c.now.interval g.1.2);
    })
  ];
  above = record {
    receipts = λ y lt. ap (λ (d : Content). get d.receipts y) g.1.4 ∙ r.above.receipts y lt;
    checkpoints = λ y lt. ap (λ (d : Content). get d.checkpoints y) g.1.4 ∙ get-insert_apart a.checkpoints c.now.interval g.1.2 y (apart y lt) ∙ r.above.checkpoints y lt;
  };
}
  where
    apart : (y : ℕ) → length (history v p) < y → y ≢ c.now.interval
    apart y lt = let i = interval_is v p a c r in omega arith

-- ---- either of them
store_stored : (kind : Batch) (v : Past) (p : ℕ) (a b : Content) (c : CoreState) → IsCoreOf (length v.programs) p c → HasGained kind c a b → IsRunning v p a c → IsStored v p a → IsStored v p b
store_stored batches.Log v p a b c own g r s = first_stored (length c.log) v p a b c (whole_first c a b g) r s
store_stored (batches.First k) v p a b c own g r s = first_stored k v p a b c g r s
store_stored batches.Checkpoint v p a b c own g r s = checkpoint_stored v p a b c own g.1 r s

store_running : (kind : Batch) (v : Past) (p : ℕ) (a b : Content) (c : CoreState) → HasGained kind c a b → IsRunning v p a c → IsRunning v p b (stored kind c)
store_running batches.Log v p a b c g r = subst (λ (d : CoreState). IsRunning v p b d) (whole_flushed c) (first_running (length c.log) v p a b c (whole_first c a b g) r)
store_running (batches.First k) v p a b c g r = first_running k v p a b c g r
store_running batches.Checkpoint v p a b c g r = checkpoint_running v p a b c g r

store_up : (kind : Batch) (w : WorldState) (p : ℕ) (c : CoreState) → IsUpIn w.manager p c → IsUpIn w.manager p (stored kind c)
store_up batches.Log w p c u = record { round = u.round; starts = u.starts; inc = u.inc; away = u.away }
store_up (batches.First k) w p c u = record { round = u.round; starts = u.starts; inc = u.inc; away = u.away }
store_up batches.Checkpoint w p c u = record { round = u.round; starts = u.starts; inc = u.inc; away = u.away }

store_inc : (kind : Batch) (c : CoreState) → (stored kind c).inc ≡ c.inc
store_inc batches.Log c = refl
store_inc (batches.First k) c = refl
store_inc batches.Checkpoint c = refl

store_interval : (kind : Batch) (c : CoreState) → (stored kind c).now.interval ≡ c.now.interval
store_interval batches.Log c = refl
store_interval (batches.First k) c = refl
store_interval batches.Checkpoint c = refl

-- who runs is not down
runs_down : (w : WorldState) (p : ℕ) (declared : Bool) → Runs w p → slice_get w.places p ≡ Some (ProcessState.Down declared) → ⊥
runs_down w p declared runs down = elim runs [ inl up ↦ apart (once ProcessState.Up (ProcessState.Down declared) (sym up ∙ down)) | inr joined ↦ in_apart (once ProcessState.In (ProcessState.Down declared) (sym joined.0 ∙ down)) ]
  where
    apart : ProcessState.Up ≡ ProcessState.Down declared → ⊥
    apart e = cc

    in_apart : ProcessState.In ≡ ProcessState.Down declared → ⊥
    in_apart e = cc

pub sound_store : (kind : Batch) (w : WorldState) (p : ℕ) (a b : Content) (c : CoreState) (health : List Health) → HasShape w → Sound w → slice_get w.cores p ≡ Some (Some c) → slice_get w.contents p ≡ Some a → Runs w p → HasGained kind c a b
    → Sound (remade w w.live w.frames (set w.cores p (Some (stored kind c))) w.manager (set w.contents p b) health)
sound_store kind w p a b c health h s at holds runs g =
    let v = past_of w in
    let r = s.running p c a at holds runs in
    record {
      legal = s.legal;
      frames = s.frames;
      outputs = s.outputs;
      rows = s.rows;
      stored = λ q held f. elim (at_change w.contents p q held b f) [
        | inl same ↦ subst (λ o. IsStored v o held) (sym same.0) (subst (IsStored v p) (sym same.1) (store_stored kind v p a b c (h.own p c at) g r (s.stored p a holds)))
        | inr other ↦ s.stored q held other.1
      ];
      backed = λ row held e f. elim (at_change w.contents p row.pid held b f) [
        | inl same ↦ elim (s.backed row a e (subst (λ o. slice_get w.contents o ≡ Some a) (sym same.0) holds)) [ inl has ↦ inl (subst (λ (d : Content). HasBytes d row.kind row.interval) (sym same.1) (gained_record kind c a b row.kind row.interval g has)) | inr is ↦ inr is ]
        | inr other ↦ s.backed row held e other.1
      ];
      running = λ q d held e f stands. elim (at_change w.cores p q (Some d) (Some (stored kind c)) e) [
        | inl same ↦ elim (at_change w.contents p q held b f) [
          | inl too ↦ subst (λ o. IsRunning v o held d) (sym same.0) (subst (λ (x : Content). IsRunning v p x d) (sym too.1) (subst (IsRunning v p b) (sym (once d (stored kind c) same.1)) (store_running kind v p a b c g r)))
          | inr rest ↦ absurd (rest.0 same.0)
        ]
        | inr other ↦ elim (at_change w.contents p q held b f) [
          | inl too ↦ absurd (other.0 too.0)
          | inr rest ↦ s.running q d held other.1 rest.1 stands
        ]
      ];
      up = λ q d f stands. elim (at_change w.cores p q (Some d) (Some (stored kind c)) f) [
        | inl same ↦
            let u = s.up p c at (subst (λ o. slice_get w.places o ≡ Some ProcessState.Up) same.0 stands) in
            subst (λ o. IsUpIn w.manager o d) (sym same.0) (subst (IsUpIn w.manager p) (sym (once d (stored kind c) same.1)) (store_up kind w p c u))
        | inr other ↦ s.up q d other.1 stands
      ];
      joined = s.joined;
      failed = s.failed;
      gathered = s.gathered;
      current = s.current;
      known = s.known;
      ends = λ q declared held place old f. elim (at_change w.contents p q held b f) [
        | inl same ↦ absurd (runs_down w p declared runs (subst (λ o. slice_get w.places o ≡ Some (ProcessState.Down declared)) same.0 place))
        | inr other ↦ s.ends q declared held place old other.1
      ];
      behind = s.behind;
      inside = λ q d f place on. elim (at_change w.cores p q (Some d) (Some (stored kind c)) f) [
        | inl same ↦ subst (λ o. d.inc ≡ newest_of w.manager.starts o) (sym same.0)
            (ap (λ (x : CoreState). x.inc) (once d (stored kind c) same.1) ∙ store_inc kind c ∙ s.inside p c at (subst (λ o. slice_get w.places o ≡ Some ProcessState.In) same.0 place) (subst (Runs w) same.0 on))
        | inr other ↦ s.inside q d other.1 place on
      ];
      beyond = λ q d f place news back. elim (at_change w.cores p q (Some d) (Some (stored kind c)) f) [
        | inl same ↦ subst (λ o. slice_index w.manager.last o < d.now.interval) (sym same.0)
            (subst (λ x. slice_index w.manager.last p < x) (sym (ap (λ (x : CoreState). x.now.interval) (once d (stored kind c) same.1) ∙ store_interval kind c))
            (s.beyond p c at (subst (λ o. slice_get w.places o ≡ Some ProcessState.In) same.0 place) (subst (HasNews w) same.0 news) (subst (λ o. is_named w.manager.backs o ≡ true) same.0 back)))
        | inr other ↦ s.beyond q d other.1 place news back
      ];
    }

-- how the stores stand is in no claim
pub sound_clean : (w : WorldState) (contents : List Content) (old new : List Health) → Sound (remade w w.live w.frames w.cores w.manager contents old) → Sound (remade w w.live w.frames w.cores w.manager contents new)
sound_clean w contents old new s = record { legal = s.legal; frames = s.frames; outputs = s.outputs; rows = s.rows; stored = s.stored; backed = s.backed; running = s.running; up = s.up; joined = s.joined; failed = s.failed; gathered = s.gathered; current = s.current; known = s.known; ends = s.ends; behind = s.behind; inside = s.inside; beyond = s.beyond }
