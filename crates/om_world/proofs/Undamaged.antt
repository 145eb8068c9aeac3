-- Over the stores of one run a restart finds nothing damaged.
use Rattle.std.proofs.Common.{◌≡◌, ◌≢◌, inl, inr, ℕ, zero, suc, ◌+◌, ◌<◌, ◌≤◌, List, [], ◌∷◌, length, map, take, Some, None, Option, Bool, true, false, Err, refl, sym, ap, ◌∙◌, subst, arith, length-append}
use Rattle.std.specs.Prelude.{slice_get}
use Rattle.std.specs.FinMap.{get}
use Rattle.std.proofs.lemmas.List.{length-replicate, length-take-le}
use Rattle.om_format.specs.Checkpoints.{CheckpointRecord}
use Rattle.om_format.specs.Receipts.{ReceiptRecord}
use Rattle.om_interval.specs.Vectors.{IsBelow}
use Rattle.om_look.specs.Rows.{AreRowsOf, AreSegments, FollowOn, IsBase, IsMismatch, IsReceiptOf, Lead, RefusesRows, base_row, interval_before, next_row, receipts_behind, rows_of_segments}
use Rattle.om_look.specs.declared.rows.RowsFault.{RowsFault}
use Rattle.om_look.specs.declared.rows.RowsFault.TheVariants.{Damaged, Mismatch, Fault, Memory}
use Rattle.om_manager.specs.Notes.{Notes}
use Rattle.om_manager.specs.Outputs.{AreNumbered, held_of}
use Rattle.om_manager.specs.Sound.{IsManager}
use Rattle.om_manager.specs.State.{ManagerState, held_by, process_count, released_by}
use Rattle.om_manager.specs.declared.answers.OutputError.{OutputError}
use Rattle.om_manager.specs.declared.answers.RecordError.{RecordError}
use Rattle.om_manager.specs.declared.answers.RecordError.TheVariants as records
use Rattle.om_manager.specs.declared.output_log.Output.{Output}
use Rattle.om_member.specs.Handed.{AreHandedUpTo, made_of}
use Rattle.om_member.specs.Told.{AreTold, IsToldUpTo, row_for}
use Rattle.om_process.specs.Claims.{AtInterval, RecordOf, RowOf}
use Rattle.om_process.specs.Process.{Process, Program, Received}
use Rattle.om_process.specs.Replays.{received_of}
use Rattle.om_process.specs.Stored.{IsCheckpointAt, IsReceiptAt}
use Rattle.om_process.specs.declared.limits.TheConstants.{LAST_INTERVAL}
use Rattle.om_process.specs.declared.row.PendingRow.{PendingRow}
use Rattle.om_process.proofs.Making.{interval_along}
use Rattle.om_recover.specs.Offered.{offered}
use Rattle.om_recover.specs.Recoverable.{IsGreatest}
use Rattle.om_recover.specs.Rows.{HasRow}
use Rattle.om_recover.specs.declared.note.NoteError.TheVariants as notes
use Rattle.om_recover.specs.declared.row.Row.{Row}
use Rattle.om_recover.specs.declared.row.RowKind.TheVariants.{Checkpoint, Log}
use Rattle.om_stable.specs.Content.{Content, Records}
use Rattle.om_take_up.specs.TakenUp.{IsTakenUp}
use Rattle.om_take_up.specs.declared.taking.TakeUpFault.{TakeUpFault}
use Rattle.om_take_up.specs.declared.taking.TakeUpFault.TheVariants as take_ups
use Rattle.om_take_up.proofs.HandingLemmas.{released_for_memory}
use Rattle.om_world.specs.declared.entry.Entry.{Entry}
use Rattle.om_world.specs.declared.event.Refusal.{Refusal}
use Rattle.om_world.specs.declared.event.Refusal.TheVariants as why
use Rattle.om_world.specs.Disk.{AreTrue, held_in}
use Rattle.om_world.specs.Live.{program_at, received}
use Rattle.om_world.specs.Started.{IsNew}
use Rattle.om_take_up.specs.StoreRows.{HasRowsOf}
use Rattle.om_world.specs.World.{IsKnown, WorldState}
use Rattle.om_world.specs.steps.Moves.{refusal_of_record}
use Rattle.om_world.specs.steps.Restarting.{HasRead, HasRowsUpTo, HasToldStores, refusal_of_rows, refusal_of_take_up, CanRestart}
use Rattle.om_world.specs.steps.Running.{refusal_of_output}
use Rattle.om_world.specs.steps.Sound.{HasShape, IsWorld}
use Rattle.om_world.proofs.Disk.{content_at, on_disk, store_ends}
use Rattle.om_world.proofs.Losing.{not_lost}
use Rattle.om_world.proofs.Ordered.{offers_by}
use Rattle.om_world.proofs.Raising.{less}
use Rattle.om_world.proofs.Reading.{held_same, known_read, same_but}
use Rattle.om_world.proofs.Returning.{what}
use Rattle.om_take_up.proofs.RowsLemmas.{AreAdded, are_added, row_pid}
use Rattle.om_world.proofs.RowsTold.{all_stores, same_rows}
use Rattle.om_world.proofs.StoredRows.{Each, IsTrueRow, base_true, each_append, each_at, next_number, next_true, store_true}
use Rattle.om_world.proofs.TrueRows.{IsTrueOf, first_true, for_true}
use Rattle.om_world.specs.Stopped.{IsLeft, along}
use Rattle.om_world.proofs.Leaving.{can_restart, shape_along}

-- ---- each record of a store is one of its process
within : (held : Records) (x last : ℕ) (bytes : List ℕ) → ((y : ℕ) → last < y → get held y ≡ None) → get held x ≡ Some bytes → x ≤ last
within held x last bytes none at = elim (less last x) [ inl above ↦ absurd (apart (get held x) (none x above) at) | inr le ↦ le ]
  where
    apart : (o : Option (List ℕ)) → o ≡ None → o ≡ Some bytes → ⊥
    apart o none some = cc

checkpoint_stands : (w : WorldState) (p x : ℕ) (bytes : List ℕ) → HasShape w → CanRestart w → p < length w.programs → get (held_in w p).checkpoints x ≡ Some bytes
    → (c : CheckpointRecord) × IsCheckpointAt (held_in w p).checkpoints x c × IsBase p (length w.programs) x c
checkpoint_stands w p x bytes h s lt at =
    let g : List Received = received p w.live in
    let le = within (held_in w p).checkpoints x (length g) bytes (store_ends w p h s lt).checkpoints at in
    let known = (s.stored p (held_in w p) (content_at w p h lt)).checkpoints x bytes le at in
    let c = known.0 in
    let claim = known.4 in
    let long : claim.1.0.interval ≡ length (take x g) = interval_along (program_at w.programs p) p (length w.programs) claim.1.1.0 (take x g) claim.1.0 claim.1.1.1 in
    let named : c.head.interval ≡ x = ap (λ (q : Process). q.interval) claim.1.2.same ∙ long ∙ length-take-le x g le in
    (c, (bytes, at, known.1, named), record { pid = known.2; size = known.3; interval = named })

receipt_stands : (w : WorldState) (p x : ℕ) (bytes : List ℕ) → HasShape w → CanRestart w → p < length w.programs → 0 < x → get (held_in w p).receipts x ≡ Some bytes
    → (r : ReceiptRecord) × IsReceiptAt (held_in w p).receipts x r × IsReceiptOf p (length w.programs) x r
receipt_stands w p x bytes h s lt begun at =
    let g : List Received = received p w.live in
    let le = within (held_in w p).receipts x (length g) bytes (store_ends w p h s lt).receipts at in
    let known = (s.stored p (held_in w p) (content_at w p h lt)).receipts x bytes (omega arith) le at in
    let r = known.0 in
    let claim = known.2 in
    let front = claim.1.0 in
    let fits = claim.1.4 in
    let long : claim.1.2.interval ≡ length front = interval_along (program_at w.programs p) p (length w.programs) claim.1.3.0 front claim.1.2 claim.1.3.1 in
    let many : length front + 1 ≡ x = sym (length-append front (received_of r ∷ [])) ∙ ap length (sym claim.1.1) ∙ length-take-le x g le in
    let named : r.interval ≡ x = fits.interval ∙ ap (λ k. k + 1) long ∙ many in
    (r, (bytes, at, known.1, named), record { to = fits.to; from = fits.from; interval = named })

-- ---- and follows on those before it
lead_true : (program : Program) (own n : ℕ) (h : List Received) (held : Records) (first last : PendingRow) (rs : List ReceiptRecord)
    → ((x : ℕ) (r : ReceiptRecord) → 1 ≤ x → IsReceiptAt held x r → AtInterval h x (RecordOf program own n r))
    → IsTrueRow own n h first → Lead own n (IsReceiptAt held) first rs last → IsTrueRow own n h last
lead_true program own n h held first last [] true_of old same = subst (IsTrueRow own n h) same old
lead_true program own n h held first last (r ∷ rs) true_of old lead =
    lead_true program own n h held (next_row own first r) last rs true_of (next_true program own n h first r old (true_of (first.x + 1) r (omega arith) lead.0)) lead.3

no_mismatch : (programs : List Program) (live : List Entry) (held : ℕ → Content) (p x : ℕ) → AreTrue programs live held → p < length programs → IsMismatch p (length programs) x (held p) → ⊥
no_mismatch programs live held p x disk lt m =
    let program : Program = program_at programs p in
    let n : ℕ = length programs in
    let g : List Received = received p live in
    let base = base_true program p n g m.checkpoint (disk.checkpoints p m.checkpoint.head.interval m.checkpoint lt m.stored) in
    let before = lead_true program p n g (held p).receipts (base_row m.checkpoint) m.before m.receipts (λ y r begun at. disk.receipts p y r lt begun at) base m.lead in
    let begun : 1 ≤ x = let next = m.next in omega arith in
    let claim = disk.receipts p x m.receipt lt begun m.there in
    m.other (next_number program p n g m.before m.receipt before (subst (λ y. AtInterval g y (RecordOf program p n m.receipt)) m.next claim))

-- the records of a store stand for rows
pub rows_stand : (w : WorldState) (p : ℕ) (fault : RowsFault) → HasShape w → CanRestart w → AreTrue w.programs w.live (held_in w) → p < length w.programs
    → RefusesRows p (length w.programs) (held_in w p) fault → refusal_of_rows fault ≢ why.Damaged
rows_stand w p (Damaged x) h s disk lt refused is = elim refused [
  | inl base ↦
      let b = what (get (held_in w p).checkpoints x) base.there in
      let c = checkpoint_stands w p x b.0 h s lt b.1 in
      base.none c.0 c.1 c.2
  | inr receipt ↦
      let b = what (get (held_in w p).receipts x) receipt.there in
      let r = receipt_stands w p x b.0 h s lt receipt.begun b.1 in
      receipt.none r.0 r.1 r.2
]
rows_stand w p (Mismatch x) h s disk lt refused is = no_mismatch w.programs w.live (held_in w) p x disk lt refused
rows_stand w p Fault h s disk lt refused is = cc
rows_stand w p Memory h s disk lt refused is = cc

-- ---- no row of a receipt is of interval 0
abbrev IsBegun : PendingRow → Type 0
IsBegun t = t.ckpt ≡ false → 0 < t.x

follow_begun : (own n : ℕ) (before : PendingRow) (records : List (ℕ × List ℕ)) (rows : List PendingRow) → FollowOn own n before records rows → Each IsBegun rows
follow_begun own n before records [] on = tt
follow_begun own n before [] (row ∷ rows) on = absurd on
follow_begun own n before (e ∷ records) (row ∷ rows) on =
    let at : row.x ≡ before.x + 1 = ap (λ (t : PendingRow). t.x) on.5 in
    (λ log. omega arith, follow_begun own n row records rows on.6)

segments_begun : (own n : ℕ) (held : Content) (o : Option ℕ) (segments : List (CheckpointRecord × List PendingRow)) → AreSegments own n held o segments → Each IsBegun (rows_of_segments segments)
segments_begun own n held None [] a = tt
segments_begun own n held None (s ∷ more) a = absurd a
segments_begun own n held (Some to) [] a = tt
segments_begun own n held (Some to) (s ∷ more) a =
    each_append IsBegun (base_row s.0 ∷ s.1) (rows_of_segments more)
    (λ log. absurd (apart log), follow_begun own n (base_row s.0) (receipts_behind held s.0.head.interval to) s.1 a.0.follow)
    (segments_begun own n held (interval_before s.0.head.interval) more a.1)
  where
    apart : true ≡ false → ⊥
    apart e = cc

store_begun : (own n : ℕ) (held : Content) (rows : List PendingRow) (i : ℕ) (t : PendingRow) → AreRowsOf own n held rows → slice_get rows i ≡ Some t → IsBegun t
store_begun own n held rows i t a at = each_at IsBegun rows i t (subst (Each IsBegun) (sym a.2) (segments_begun own n held (Some LAST_INTERVAL) a.0 a.1)) at

for_begun : (p : ℕ) (t : PendingRow) → IsBegun t → (row_for p t).kind ≡ Log → 0 < (row_for p t).interval
for_begun p t begun = go t.ckpt refl
  where
    apart : Checkpoint ≡ Log → ⊥
    apart e = cc

    go : (b : Bool) → t.ckpt ≡ b → (row_for p t).kind ≡ Log → 0 < (row_for p t).interval
    go true is = rw is (λ log. absurd (apart log))
    go false is = rw is (λ log. begun is)

-- ---- a manager takes the rows of one store after another
row_true : (programs : List Program) (live : List Entry) (held : ℕ → Content) (p i : ℕ) (rows : List PendingRow) (t : PendingRow)
    → AreTrue programs live held → p < length programs → AreRowsOf p (length programs) (held p) rows → slice_get rows i ≡ Some t → IsTrueOf programs live (row_for p t)
row_true programs live held p i rows t disk lt a at = for_true programs live p t
    (store_true (program_at programs p) p (length programs) (received p live) (held p) rows (λ x c at. disk.checkpoints p x c lt at) (λ x r begun at. disk.receipts p x r lt begun at) a i t at)

taken_at : (rows : List PendingRow) (count i : ℕ) (t : PendingRow) → slice_get (take count rows) i ≡ Some t → slice_get rows i ≡ Some t
taken_at rows zero i t at = absurd (none i at)
  where
    none : (i : ℕ) → slice_get {X = PendingRow} [] i ≡ Some t → ⊥
    none i at = cc
taken_at [] (suc count) i t at = at
taken_at (x ∷ rows) (suc count) zero t at = at
taken_at (x ∷ rows) (suc count) (suc i) t at = taken_at rows count i t at

told_true : (programs : List Program) (live : List Entry) (held : ℕ → Content) (p count : ℕ) (rows : List PendingRow) (m next : ManagerState) (row : Row)
    → AreTrue programs live held → p < length programs → HasRowsUpTo p (length programs) held m.rows → AreRowsOf p (length programs) (held p) rows → AreAdded m p (take count rows) next
    → HasRow next.rows row → IsTrueOf programs live row
told_true programs live held p count rows m next row disk lt u a added has = elim (added.only row has) [
  | inl before ↦
      let was = u.only row before in
      elim was.1 [
        | inl first ↦ subst (IsTrueOf programs live) (sym first) (first_true programs live row.pid)
        | inr one ↦ subst (IsTrueOf programs live) (sym one.1.3) (row_true programs live held row.pid one.1.0 (u.told row.pid) one.1.1 disk was.0 (u.of_store row.pid one.0) one.1.2)
      ]
  | inr one ↦ subst (IsTrueOf programs live) (sym one.3) (row_true programs live held p one.0 rows one.1 disk lt a (taken_at rows count one.0 one.1 one.2))
]

told_for_memory : (programs : List Program) (live : List Entry) (held : ℕ → Content) (p count : ℕ) (rows : List PendingRow) (m next : ManagerState) (fault : RecordError)
    → AreTrue programs live held → p < length programs → process_count m ≡ length programs → m.round ≡ 0 → IsManager m
    → HasRowsUpTo p (length programs) held m.rows → AreRowsOf p (length programs) (held p) rows → IsToldUpTo m 0 p rows count (Err fault) next → fault ≡ records.Refused notes.Memory
told_for_memory programs live held p count rows m next fault disk lt size first sound u a told = by fault told.refused.2
  where
    n : ℕ
    n = length programs

    added : AreAdded m p (take count rows) next
    added = are_added m 0 p (take count rows) next sound told.done

    t : PendingRow
    t = told.refused.0

    row : Row
    row = row_for p t

    pid : row.pid ≡ p
    pid = row_pid p t

    claim : (other : Row) → HasRow next.rows other → other.pid ≡ row.pid → AtInterval (received row.pid live) other.interval (RowOf row.pid n other.vec other.got)
    claim other has is = subst (λ q. AtInterval (received q live) other.interval (RowOf q n other.vec other.got)) is (told_true programs live held p count rows m next other disk lt u a added has)

    by : (fault : RecordError) → Notes next 0 row (Err fault) next → fault ≡ records.Refused notes.Memory
    by (records.Stale round) o = absurd (o.1 (sym (ap (λ (k : ManagerState). k.round) added.told.others ∙ first)))
    by (records.Refused fault) o =
        ap (λ f. records.Refused f)
        (offers_by n (received row.pid live) next.rows row fault (subst (λ q. q < n) (sym pid) lt) claim
        (row_true programs live held p count rows t disk lt a told.refused.1) (for_begun p t (store_begun p n (held p) rows count t a told.refused.1))
        (subst (λ k. offered k next.rows row (Err fault) next.rows) (added.told.size ∙ size) o.1))

memory_stands : (refusal : Refusal) → refusal ≡ why.Memory → refusal ≢ why.Damaged
memory_stands refusal memory damaged = cc

told_stand : (old mid new : WorldState) (run : List Entry) (first m next : ManagerState) (p count : ℕ) (rows : List PendingRow) (fault : RecordError) → p < length old.programs → IsNew (length old.programs) first
    → HasToldStores old first p mid m → HasRead mid new → IsKnown new → AreTrue mid.programs run (held_in mid) → AreRowsOf p (length mid.programs) (held_in mid p) rows
    → IsToldUpTo m 0 p rows count (Err fault) next → refusal_of_record fault ≢ why.Damaged
told_stand old mid new run first m next p count rows fault lt fresh t r known disk a u is =
    let before = known_read mid new r known in
    let same = same_but old mid t.read before in
    let size : process_count m ≡ length old.programs = t.told.size ∙ ap length fresh.recovery ∙ length-replicate (length old.programs) 0 in
    let memory = told_for_memory old.programs run (held_in old) p count rows m next fault (subst (λ (w : WorldState). AreTrue w.programs run (held_in w)) same disk) lt size (ap (λ (k : ManagerState). k.round) t.told.others ∙ fresh.round) t.told.sound
    (t.rows before) (subst (λ (w : WorldState). AreRowsOf p (length w.programs) (held_in w p) rows) same a) u in
    memory_stands (refusal_of_record fault) (ap refusal_of_record memory) is

handed_stand : (old mid new : WorldState) (first m told next : ManagerState) (p : ℕ) (rows : List PendingRow) (outputs : List Output) (fault : OutputError) → p < length old.programs → IsNew (length old.programs) first
    → HasToldStores old first p mid m → IsManager new.manager → process_count new.manager ≡ length old.programs → map held_of outputs ≡ released_by new.manager p → AreNumbered outputs
    → AreTold m 0 p rows told → AreHandedUpTo told 0 p (map made_of outputs) (Err fault) next → refusal_of_output fault ≢ why.Damaged
handed_stand old mid new first m told next p rows outputs fault lt fresh t sound places is numbered a u damaged =
    let added : AreAdded m p rows told = are_added m 0 p rows told t.told.sound a in
    let none : held_by told p ≡ [] = ap (λ (k : ManagerState). held_by k p) added.told.others ∙ t.none p (omega arith) in
    let size : process_count told ≡ length old.programs = added.told.size ∙ t.told.size ∙ ap length fresh.recovery ∙ length-replicate (length old.programs) 0 in
    let round : told.round ≡ 0 = ap (λ (k : ManagerState). k.round) added.told.others ∙ ap (λ (k : ManagerState). k.round) t.told.others ∙ fresh.round in
    let memory = released_for_memory new.manager told p 0 outputs added.told.sound none is numbered next fault sound (omega arith) (omega arith) (sym round) u in
    memory_stands (refusal_of_output fault) (ap refusal_of_output memory) damaged

-- what a store held is refused for memory alone
pub taken_stand : (old mid new : WorldState) (run : List Entry) (first m next : ManagerState) (p : ℕ) (rows : List PendingRow) (outputs : List Output) (fault : TakeUpFault) → p < length old.programs → IsNew (length old.programs) first
    → HasToldStores old first p mid m → HasRead mid new → IsKnown new → AreTrue mid.programs run (held_in mid) → AreRowsOf p (length mid.programs) (held_in mid p) rows
    → IsManager new.manager → process_count new.manager ≡ length old.programs → map held_of outputs ≡ released_by new.manager p → AreNumbered outputs
    → IsTakenUp m 0 p rows (map made_of outputs) (Err fault) next → refusal_of_take_up fault ≢ why.Damaged
taken_stand old mid new run first m next p rows outputs (take_ups.Row fault) lt fresh t r known disk a sound places is numbered u =
    told_stand old mid new run first m next p u.0 rows fault lt fresh t r known disk a u.1
taken_stand old mid new run first m next p rows outputs (take_ups.Output fault) lt fresh t r known disk a sound places is numbered u =
    handed_stand old mid new first m u.0 next p rows outputs fault lt fresh t sound places is numbered u.1 u.2

-- ---- what is known of a world
pub stands : {S : Type 0} (IsSound : S → Type 0) (stores : List S) (v w : WorldState) (run : List Entry) → IsWorld IsSound stores v → v ≡ w → IsKnown w → IsLeft w run → HasShape (along w run) × CanRestart (along w run)
stands IsSound stores v w run i e known left = (
  shape_along w run (subst HasShape e i.shape),
  subst (λ (x : WorldState). CanRestart (along x run)) e (can_restart IsSound stores v run i (subst IsKnown (sym e) known) (subst (λ (x : WorldState). IsLeft x run) (sym e) left)),
)

-- ---- and no less is recovered
pub none_lost : (old mid : WorldState) (first told : ManagerState) (run : List Entry) → IsNew (length old.programs) first → HasToldStores old first (length old.programs) mid told → HasShape (along mid run) → CanRestart (along mid run) → IsKnown mid
    → IsBelow mid.manager.recovery told.recovery
none_lost old mid first told run fresh t h s known =
    let programs : mid.programs ≡ old.programs = ap (λ (x : WorldState). x.programs) t.read.others in
    let many : length mid.programs ≡ length old.programs = ap length programs in
    let all = all_stores (length old.programs) (held_in old) told.rows (t.rows known) in
    let here = same_rows (length old.programs) (held_in old) (held_in mid) told.rows (held_same old mid t.read known) all in
    let rows : HasRowsOf (length mid.programs) (held_in mid) told.rows = subst (λ n. HasRowsOf n (held_in mid) told.rows) (sym many) here in
    let size : process_count told ≡ length mid.programs = t.told.size ∙ ap length fresh.recovery ∙ length-replicate (length old.programs) 0 ∙ sym many in
    let d = on_disk (along mid run) h s in
    not_lost mid.programs run (held_in mid) told.rows mid.manager.recovery told.recovery d.held rows (subst (λ n. IsGreatest n told.rows told.recovery) size t.told.sound.exact.greatest) d.places d.last d.served d.within
