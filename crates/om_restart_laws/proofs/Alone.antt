-- A start over stores alone.
use Rattle.std.proofs.Common.{◌≡◌, inl, inr, ℕ, suc, ◌+◌, ◌<◌, ◌≤◌, List, [], ◌∷◌, length, map, cond, replicate, Some, None, Option, Bool, true, false, refl, sym, ap, ◌∙◌, subst, arith}
use Rattle.std.proofs.lemmas.Bool.Decides.{nat_tests}
use Rattle.std.specs.FinMap.{get}
use Rattle.std.specs.Prelude.{min, nat_le, slice_get, slice_index}
use Rattle.om_format.specs.Checkpoints.{CheckpointRecord}
use Rattle.om_format.specs.Receipts.{ReceiptRecord}
use Rattle.om_format.specs.declared.queue.QueueEntry.{QueueEntry}
use Rattle.om_interval.specs.Vectors.{IsBelow}
use Rattle.om_look.specs.Rows.{AreRowsOf, AreSegments, FollowOn, base_row, interval_before, receipts_behind, rows_of_segments}
use Rattle.om_manager.specs.Outputs.{HeldOutput, within}
use Rattle.om_manager.specs.Sound.{IsManager}
use Rattle.om_manager.specs.State.{ManagerState, held_by, process_count, released_by}
use Rattle.om_member.specs.Handed.{held_as}
use Rattle.om_member.specs.Told.{row_for}
use Rattle.om_process.specs.Claims.{AtInterval, CheckpointOf, Makes, RecordOf}
use Rattle.om_process.specs.Core.{CoreState}
use Rattle.om_process.specs.Process.{Program}
use Rattle.om_process.specs.Replays.{process_of_checkpoint}
use Rattle.om_process.specs.Stored.{IsCheckpointAt, IsReceiptAt}
use Rattle.om_process.specs.declared.limits.TheConstants.{LAST_INTERVAL}
use Rattle.om_process.specs.declared.queues.Made.{Made}
use Rattle.om_process.specs.declared.row.PendingRow.{PendingRow}
use Rattle.om_recover.specs.Cutting.{IsEffective}
use Rattle.om_recover.specs.Rows.{Has, HasRow}
use Rattle.om_recover.specs.declared.row.Row.{Row}
use Rattle.om_recover.specs.declared.row.RowKind.TheVariants.{Checkpoint, Log}
use Rattle.om_recover.proofs.CuttingLemmas.{has_after_cut, of_cut}
use Rattle.om_stable.specs.Content.{Content}
use Rattle.om_stable.proofs.BetweenLemmas.{between-AreAllBetween}
use Rattle.om_take_up.specs.Anew.{IsNew}
use Rattle.om_take_up.specs.Orders.{Act, AreOfEach, ComeInTurn, StartsOver}
use Rattle.om_take_up.specs.TakenUp.{RiseFrom}
use Rattle.om_take_up.proofs.Orders.{any_order}
use Rattle.om_world.specs.Disk.{IsOnDisk, held_in}
use Rattle.om_world.specs.Holds.{HasRecord, IsWanted, ReleasedFirst}
use Rattle.om_world.specs.Live.{Legal, cut_list, program_at, received}
use Rattle.om_world.specs.Restarted.{HasRestarted}
use Rattle.om_world.specs.World.{WorldState, output_entry, recovered}
use Rattle.om_world.specs.declared.entry.Entry.{Entry}
use Rattle.om_world.proofs.Beginning.{same_at}
use Rattle.om_world.proofs.Disk.{index_at}
use Rattle.om_world.proofs.Holding.{before_map}
use Rattle.om_world.proofs.Lists.{map_at}
use Rattle.om_world.proofs.Losing.{has_checkpoint, not_lost}
use Rattle.om_world.proofs.Released.{released_first}
use Rattle.om_world.proofs.Serving.{rows_serve}
use Rattle.om_world.proofs.StoredRows.{AreHeld, Each, each_append, each_at}
use Rattle.om_world.proofs.Telling.{below_all}
use Rattle.om_restart_laws.specs.Alone.{AreLeft, StandsOver, content_of, world_over}
use Rattle.om_restart_laws.proofs.Closing.{cut_legal}
use Rattle.om_restart_laws.proofs.Cutting.{cut_fact}

-- ---- each row of a store is that of a record of its process
record IsRecorded (own n : ℕ) (held : Content) (row : PendingRow) : Type 0 where
  checkpoint : row.ckpt ≡ true → (c : CheckpointRecord) × IsCheckpointAt held.checkpoints row.x c × (c.head.pid ≡ own) × (c.n ≡ n)
  receipt : row.ckpt ≡ false → (r : ReceiptRecord) × IsReceiptAt held.receipts row.x r × (0 < row.x)

not_both : (b : Bool) → b ≡ true → b ≡ false → ⊥
not_both b e f = cc

follow_recorded : (own n : ℕ) (held : Content) (before : PendingRow) (records : List (ℕ × List ℕ)) (rows : List PendingRow) → AreHeld held.receipts records → FollowOn own n before records rows → Each (IsRecorded own n held) rows
follow_recorded own n held before records [] there on = tt
follow_recorded own n held before [] (row ∷ rows) there on = absurd on
follow_recorded own n held before (e ∷ records) (row ∷ rows) there on =
    let at : row.x ≡ before.x + 1 = ap (λ (t : PendingRow). t.x) on.5 in
    let log : row.ckpt ≡ false = ap (λ (t : PendingRow). t.ckpt) on.5 in (
      record {
        checkpoint = λ is. absurd (not_both row.ckpt is log);
        receipt = λ is. (on.0, (e.1, ap (get held.receipts) (at ∙ sym on.3) ∙ there 0 e refl, on.1, on.2.interval ∙ on.3 ∙ sym at), omega arith);
      },
      follow_recorded own n held row records rows (λ i r f. there (suc i) r f) on.6,
    )

segments_recorded : (own n : ℕ) (held : Content) (o : Option ℕ) (segments : List (CheckpointRecord × List PendingRow)) → AreSegments own n held o segments → Each (IsRecorded own n held) (rows_of_segments segments)
segments_recorded own n held None [] a = tt
segments_recorded own n held None (s ∷ more) a = absurd a
segments_recorded own n held (Some to) [] a = tt
segments_recorded own n held (Some to) (s ∷ more) a =
    let c = s.0 in
    let all = between-AreAllBetween held.receipts c.head.interval (min (to + 1) LAST_INTERVAL) in
    each_append (IsRecorded own n held) (base_row c ∷ s.1) (rows_of_segments more)
    (record { checkpoint = λ is. (c, a.0.stored, a.0.pid, a.0.size); receipt = λ is. absurd (not_both true refl is) }, follow_recorded own n held (base_row c) (receipts_behind held c.head.interval to) s.1 all.are_held a.0.follow)
    (segments_recorded own n held (interval_before c.head.interval) more a.1)

row_recorded : (own n : ℕ) (held : Content) (rows : List PendingRow) (i : ℕ) (row : PendingRow) → AreRowsOf own n held rows → slice_get rows i ≡ Some row → IsRecorded own n held row
row_recorded own n held rows i row a at = each_at (IsRecorded own n held) rows i row (subst (Each (IsRecorded own n held)) (sym a.2) (segments_recorded own n held (Some LAST_INTERVAL) a.0 a.1)) at

-- ---- outputs that are all within a state
within_all : (xs : List HeldOutput) (limit : ℕ) → ((i : ℕ) (o : HeldOutput) → slice_get xs i ≡ Some o → o.interval ≤ limit) → within xs limit ≡ xs
within_all [] limit all = refl
within_all (x ∷ xs) limit all =
    let le = all 0 x refl in
    let is : nat_le x.interval limit ≡ true = grind (arith, nat_tests) in
    ap (λ b. cond b (x ∷ within xs limit) (within xs limit)) is ∙ ap (λ l. x ∷ l) (within_all xs limit (λ i o at. all (suc i) o at))

no_core : (n p : ℕ) (c : CoreState) → slice_get (replicate n None) p ≡ Some (Some c) → ⊥
no_core n p c at = apart (same_at n p None (Some c) at)
  where
    apart : Some c ≡ None → ⊥
    apart e = cc

module _ (programs : List Program) (live : List Entry) (state : List ℕ) (contents : List Content) (outputs : ℕ → List HeldOutput) (m : ManagerState) (l : AreLeft programs live state contents outputs) (s : StartsOver (length programs) (content_of contents) outputs m) where
  n : ℕ
  n = length programs

  abbrev over : WorldState
  over = world_over programs live contents m

  kept : IsBelow state m.recovery
  kept = subst (IsBelow state) (sym s.recovery) (not_lost programs live (content_of contents) s.told.rows state s.told.recovery l.records s.rows s.greatest l.places l.last l.served l.within)

  legal : Legal programs (cut_list m.recovery live)
  legal = subst (λ r. Legal programs (cut_list r live)) (sym s.recovery) (cut_legal programs live (content_of contents) s.told.rows s.told.recovery l.legal l.records s.rows s.greatest.recoverable)

  -- ---- what is released
  released : (p : ℕ) → p < length programs → released_by m p ≡ outputs p
  released p lt =
      let size = s.first.size in
      let before = s.failed.before in
      let many : process_count before ≡ length programs = ap process_count s.failed.others ∙ size in
      let held : held_by before p ≡ outputs p = ap (λ (k : ManagerState). held_by k p) s.failed.others ∙ s.holds p lt in
      let same : before.recovery ≡ s.told.recovery = ap (λ (k : ManagerState). k.recovery) s.failed.others in
      let all : (limit : ℕ) → slice_index state p ≤ limit → within (outputs p) limit ≡ outputs p = λ limit le. within_all (outputs p) limit (λ i o at. let low = (l.put_out p i o lt at).0 in omega arith) in
      let more = below_all state m.recovery p kept in
      let left : held_by m p ≡ outputs p =
      s.failed.finished.outputs p (omega arith) ∙ ap (λ xs. within xs (slice_index before.recovery p)) held ∙ all (slice_index before.recovery p) (subst (λ r. slice_index state p ≤ slice_index r p) (s.recovery ∙ sym same) more) in
      ap (λ xs. within xs (slice_index m.recovery p)) left ∙ all (slice_index m.recovery p) more

  first_released : (p : ℕ) → p < length programs → ReleasedFirst over p
  first_released p lt =
      let all = released_first programs p (cut_list m.recovery live) (map output_entry (outputs p)) legal (λ i e at.
      let o = before_map output_entry (outputs p) i e at in
      let made = l.put_out p i o.0 lt o.1 in
      let more = below_all state m.recovery p kept in
      let low = made.0 in
      subst (λ (d : QueueEntry). AtInterval (received p (cut_list m.recovery live)) d.interval (Makes (program_at programs p) p (length programs) (length programs) i d)) o.2
      (cut_fact m.recovery live p o.0.interval (Makes (program_at programs p) p (length programs) (length programs) i (output_entry o.0)) (omega arith) made.1)) in
      (all.0, all.1, λ i o at. all.2 i (output_entry o) (map_at output_entry (outputs p) i o (ap (λ xs. slice_get xs i) (sym (released p lt)) ∙ at)))

  -- ---- a row has its record
  as_checkpoint : (p : ℕ) (t : PendingRow) → p < length programs → IsRecorded p (length programs) (content_of contents p) t → t.ckpt ≡ true → t.x ≤ recovered m p → HasRecord over p (content_of contents p) Checkpoint t.x
  as_checkpoint p t lt r is le =
      let c = r.checkpoint is in
      (c.1.0, c.1.1, c.0, c.1.2, c.2, c.3, cut_fact m.recovery live p t.x (CheckpointOf (program_at programs p) p (length programs) (process_of_checkpoint c.0)) le (l.records.checkpoints p t.x c.0 lt c.1))

  as_receipt : (p : ℕ) (t : PendingRow) → p < length programs → IsRecorded p (length programs) (content_of contents p) t → t.ckpt ≡ false → t.x ≤ recovered m p → HasRecord over p (content_of contents p) Log t.x
  as_receipt p t lt r is le =
      let c = r.receipt is in
      let begun = c.2 in
      (c.1.0, c.1.1, c.0, c.1.2, cut_fact m.recovery live p t.x (RecordOf (program_at programs p) p (length programs) c.0) le (l.records.receipts p t.x c.0 lt (omega arith) c.1))

  told_record : (p : ℕ) (t : PendingRow) → p < length programs → IsRecorded p (length programs) (content_of contents p) t → (row_for p t).interval ≤ recovered m p → HasRecord over p (content_of contents p) (row_for p t).kind (row_for p t).interval
  told_record p t lt r = by t.ckpt refl
    where
      by : (b : Bool) → t.ckpt ≡ b → (row_for p t).interval ≤ recovered m p → HasRecord over p (content_of contents p) (row_for p t).kind (row_for p t).interval
      by true is = rw is (λ le. as_checkpoint p t lt r is le)
      by false is = rw is (λ le. as_receipt p t lt r is le)

  -- ---- rows of the manager
  row_there : (row : Row) → HasRow m.rows row → HasRow s.told.rows row × (row.interval ≤ recovered m row.pid)
  row_there row has =
      let before = s.failed.before in
      let cut = of_cut before.rows before.recovery row (subst (λ rows. HasRow rows row) s.failed.finished.rows has) in
      (subst (λ (k : ManagerState). HasRow k.rows row) s.failed.others cut.0, subst (λ r. row.interval ≤ slice_index r row.pid) (sym s.failed.finished.recovery) cut.1)

  still_has : (p x : ℕ) → x ≤ recovered m p → Has s.told.rows Checkpoint p x → Has m.rows Checkpoint p x
  still_has p x le has =
      let before = s.failed.before in
      let was : Has before.rows Checkpoint p x = subst (λ (k : ManagerState). Has k.rows Checkpoint p x) (sym s.failed.others) has in
      subst (λ rows. Has rows Checkpoint p x) (sym s.failed.finished.rows) (has_after_cut before.rows before.recovery Checkpoint p x (subst (λ r. x ≤ slice_index r p) s.failed.finished.recovery le) was)

  -- checkpoint 0 is wanted only where no later one stands within the state, and then it is stored
  first_record : (p c : ℕ) → p < length programs → IsEffective m.rows p (recovered m p) c → c ≤ 0 → HasRecord over p (content_of contents p) Checkpoint 0
  first_record p c lt e low =
      let serve = rows_serve p (length programs) (content_of contents p) (s.rows.told p) (slice_index state p) (l.last p lt) (l.served p lt) (s.rows.of_store p lt) in
      let more = below_all state m.recovery p kept in
      let at_most = serve.1 in
      let within_now : serve.0 ≤ recovered m p = omega arith in
      let has = still_has p serve.0 within_now (has_checkpoint (length programs) (content_of contents) s.told.rows p serve.0 s.rows lt serve.2) in
      let under = e.greatest serve.0 has within_now in
      let one = serve.2 in
      let none : serve.0 ≡ 0 = omega arith in
      let is : one.1.x ≡ 0 = one.4 ∙ none in
      subst (HasRecord over p (content_of contents p) Checkpoint) is
      (as_checkpoint p one.1 lt (row_recorded p (length programs) (content_of contents p) (s.rows.told p) one.0 one.1 (s.rows.of_store p lt) one.2) one.3 (let zero_at = is in omega arith))

  backed : (row : Row) (held : Content) (c : ℕ) → HasRow m.rows row → slice_get contents row.pid ≡ Some held → IsEffective m.rows row.pid (recovered m row.pid) c → IsWanted c row.kind row.interval → HasRecord over row.pid held row.kind row.interval
  backed row held c has at e wanted =
      let there = row_there row has in
      let t = s.rows.only row there.0 in
      let same : content_of contents row.pid ≡ held = index_at contents row.pid held at in
      subst (λ h. HasRecord over row.pid h row.kind row.interval) same (elim t.1 [
        | inl first ↦
            subst (λ (r : Row). HasRecord over row.pid (content_of contents row.pid) r.kind r.interval) (sym first)
            (first_record row.pid c t.0 e (subst (λ (r : Row). IsWanted c r.kind r.interval) first wanted))
        | inr one ↦
            subst (λ (r : Row). HasRecord over row.pid (content_of contents row.pid) r.kind r.interval) (sym one.3)
            (told_record row.pid one.1 t.0 (row_recorded row.pid (length programs) (content_of contents row.pid) (s.rows.told row.pid) one.0 one.1 (s.rows.of_store row.pid t.0) one.2)
            (subst (λ (r : Row). r.interval ≤ recovered m row.pid) one.3 there.1))
      ])

  pub stands_over : StandsOver programs live state contents outputs m
  stands_over = record {
    holds = record {
      legal = legal;
      up = λ p c at. absurd (no_core (length programs) p c at);
      gathered = λ p c at. absurd (no_core (length programs) p c at);
      released = λ p lt. first_released p lt;
      backed = λ row held c has at e wanted. backed row held c has at e wanted;
    };
    kept = kept;
    released = λ p lt. released p lt;
  }

-- ---- what a world leaves
pub are_left : (w : WorldState) → IsOnDisk w → AreLeft w.programs w.live w.manager.recovery w.contents (released_by w.manager)
are_left w d = record {
  legal = d.legal;
  records = d.held;
  places = d.places;
  last = d.last;
  served = d.served;
  within = d.within;
  put_out = d.released;
}

-- the event of a restart is a start over the stores of its world
pub starts_over : (old new : WorldState) → HasRestarted old new → StartsOver (length old.programs) (held_in old) (released_by old.manager) new.manager
starts_over old new r = record { told = r.told; first = r.first; rows = r.rows; greatest = r.greatest; holds = r.outputs; failed = r.failed; recovery = r.recovery }

-- a start in any order is one over what was left
pub any_order_stands : (programs : List Program) (live : List Entry) (state : List ℕ) (contents : List Content) (rows : ℕ → List PendingRow) (outputs : ℕ → List Made) (acts : List Act) (first last : ManagerState)
    → AreLeft programs live state contents (λ p. map held_as (outputs p)) → IsNew (length programs) first → IsManager first → ((p : ℕ) → p < length programs → AreRowsOf p (length programs) (content_of contents p) (rows p))
    → ((p : ℕ) → p < length programs → RiseFrom 0 (outputs p)) → AreOfEach (length programs) rows outputs acts → ComeInTurn first acts last → StandsOver programs live state contents (λ p. map held_as (outputs p)) last
any_order_stands programs live state contents rows outputs acts first last left fresh sound are rise each come =
    stands_over programs live state contents (λ p. map held_as (outputs p)) last left (any_order (length programs) (content_of contents) rows outputs acts first last fresh sound are rise each come)
