-- What is found in a store, replayed: what the rows say of the store's content.
use Rattle.std.proofs.Common.{◌≡◌, ◌≢◌, ◌⊎◌, inl, inr, ℕ, zero, suc, ◌+◌, ◌-◌, ◌<◌, ◌≤◌, List, [], ◌∷◌, ◌++◌, length, refl, sym, ap, ◌∙◌, subst, arith}
use Rattle.std.specs.Prelude.{Option, Some, None, Result, Ok, IsSome, slice_get}
use Rattle.std.specs.FinMap.{get}
use Rattle.om_format.specs.Receipts.{ReceiptRecord, SpellsReceipt}
use Rattle.om_format.specs.Checkpoints.{CheckpointRecord, IsSpelled, SpellsCheckpoint}
use Rattle.om_format.specs.Outcomes.{Fails}
use Rattle.om_format.specs.declared.error.DecodeError.{DecodeError}
use Rattle.om_format.specs.declared.error.DecodeError.TheVariants as decoding
use Rattle.om_format.specs.declared.version.Version.{Version}
use Rattle.om_stable.specs.Content.{Content, IsEffective, Records, between}
use Rattle.om_stable.proofs.BetweenLemmas.{between-AreAllBetween}
use Rattle.om_process.specs.declared.replay.ReplayFault.{ReplayFault}
use Rattle.om_process.specs.declared.replay.ReplayFault.TheVariants.{NoCheckpoint, Damaged, MissingReceipt, Mismatch, Fault, Memory}
use Rattle.om_process.specs.Process.{Process}
use Rattle.om_process.specs.Replays.{Replayed, process_of_checkpoint}
use Rattle.om_process.specs.Core.{CoreState, cluster_size}
use Rattle.om_process.specs.Stored.{anyone, AreReceiptsAfter, BeginsWith, StandsAfter, ContentReplaysTo, IsCheckpointOf, IsReceiptAt, IsNoMatterOfContent, Refuses}
use Rattle.om_process.specs.steps.Rows.{Ascend, AreGapless, ComesFrom, HasReceipts, IsFirstGap, IsReplayFrom, RefusesBytes, RefusesCheckpoint, RefusesFrom, RefusesRow, RefusesRows, RefusesStart, SpellRows, damage}
use Rattle.om_process.proofs.Basics.{some_once}
use Rattle.om_process.proofs.Replays.{fits_not_both}
use Rattle.om_process.proofs.RowLemmas.{ascend_within, rows_long}

abbrev Row : Type 0
Row = ℕ × List ℕ

is_there : (o : Option (List ℕ)) (bytes : List ℕ) → o ≡ Some bytes → IsSome o
is_there o bytes e = subst IsSome (sym e) refl

none_if : (o : Option (List ℕ)) → ((bytes : List ℕ) → o ≡ Some bytes → ⊥) → o ≡ None
none_if None never = refl
none_if (Some bytes) never = absurd (never bytes refl)

-- ---- rows by their places
at_front : (front back : List Row) (i : ℕ) (row : Row) → slice_get front i ≡ Some row → slice_get (front ++ back) i ≡ Some row
at_front [] back i row at = cc
at_front (x ∷ front) back zero row at = at
at_front (x ∷ front) back (suc i) row at = at_front front back i row at

at_middle : (front back : List Row) (row : Row) → slice_get (front ++ row ∷ back) (length front) ≡ Some row
at_middle [] back row = refl
at_middle (x ∷ front) back row = at_middle front back row

at_either : (front back : List Row) (i : ℕ) (row : Row) → slice_get (front ++ back) i ≡ Some row → (slice_get front i ≡ Some row) ⊎ ((j : ℕ) × (slice_get back j ≡ Some row))
at_either [] back i row at = inr (i, at)
at_either (x ∷ front) back zero row at = inl at
at_either (x ∷ front) back (suc i) row at = at_either front back i row at

place_within : (rows : List Row) (i : ℕ) (row : Row) → slice_get rows i ≡ Some row → i < length rows
place_within [] i row at = cc
place_within (x ∷ rows) zero row at = omega arith
place_within (x ∷ rows) (suc i) row at = let rest = place_within rows i row at in omega arith

row_at : (rows : List Row) (i : ℕ) → i < length rows → (row : Row) × (slice_get rows i ≡ Some row)
row_at [] i within = absurd (omega arith)
row_at (x ∷ rows) zero within = (x, refl)
row_at (x ∷ rows) (suc i) within = row_at rows i (omega arith)

gapless_get : (after : ℕ) (rows : List Row) (i : ℕ) (row : Row) → AreGapless after rows → slice_get rows i ≡ Some row → row.0 ≡ after + i + 1
gapless_get after [] i row a at = cc
gapless_get after (x ∷ rows) zero row a at =
    let same : x ≡ row = some_once x row at in
    let first : x.0 ≡ after + 1 = a.0 in
    let e : row.0 ≡ x.0 = ap (λ (r : Row). r.0) (sym same) in
    omega arith
gapless_get after (x ∷ rows) (suc i) row a at = let rest : row.0 ≡ after + 1 + i + 1 = gapless_get (after + 1) rows i row a.1 at in omega arith

gapless_front : (after : ℕ) (front back : List Row) → AreGapless after (front ++ back) → AreGapless after front
gapless_front after [] back a = tt
gapless_front after (x ∷ front) back a = (a.0, gapless_front (after + 1) front back a.1)

ascend_above : (after x : ℕ) (rows : List Row) (i : ℕ) (row : Row) → Ascend after x rows → slice_get rows i ≡ Some row → after < row.0
ascend_above after x [] i row a at = cc
ascend_above after x (y ∷ rows) zero row a at =
    let same : y ≡ row = some_once y row at in
    subst (λ (r : Row). after < r.0) same a.0
ascend_above after x (y ∷ rows) (suc i) row a at =
    let first : after < y.0 = a.0 in
    let rest : y.0 < row.0 = ascend_above y.0 x rows i row a.1 at in
    omega arith

-- ---- rows between two intervals
-- each is held
abbrev AreHeld : Records → List Row → Type 0
AreHeld held rows = (i : ℕ) (row : Row) → slice_get rows i ≡ Some row → get held row.0 ≡ Some row.1

ascending : (after x : ℕ) (rows : List Row) → ((i : ℕ) (row : Row) → slice_get rows i ≡ Some row → (after < row.0) × (row.0 ≤ x))
    → ((i j : ℕ) (row later : Row) → i < j → slice_get rows i ≡ Some row → slice_get rows j ≡ Some later → row.0 < later.0) → after ≤ x → Ascend after x rows
ascending after x [] within rise le = le
ascending after x (row ∷ rows) within rise le =
    let here = within 0 row refl in (
      here.0,
      ascending row.0 x rows (λ i later at. (rise 0 (suc i) row later (omega arith) refl at, (within (suc i) later at).1))
          (λ i j a b lt at later. rise (suc i) (suc j) a b (omega arith) at later) here.1,
    )

pub found_ascend : (held : Records) (after x : ℕ) (rows : List Row) → rows ≡ between held after x → after ≤ x → Ascend after x rows
found_ascend held after x rows is le =
    let all = between-AreAllBetween held after x in
    subst (Ascend after x) (sym is) (ascending after x (between held after x) all.within all.rise le)

-- receipts of held rows are stored
stored_rows : (held : Records) (after : ℕ) (rows : List Row) (rs : List ReceiptRecord) → AreHeld held rows → AreGapless after rows → SpellRows rows rs → AreReceiptsAfter held after rs
stored_rows held after [] [] there a b = tt
stored_rows held after [] (r ∷ rs) there a b = absurd b
stored_rows held after (row ∷ rows) [] there a b = absurd b
stored_rows held after (row ∷ rows) (r ∷ rs) there a b = (
  (row.1, ap (get held) (sym a.0) ∙ there 0 row refl, b.0.0, b.0.1 ∙ a.0),
  stored_rows held (after + 1) rows rs (λ i later at. there (suc i) later at) a.1 b.1,
)

-- no receipt is missing where there is no gap
all_there : (held : Records) (after x : ℕ) (rows : List Row) → AreHeld held rows → AreGapless after rows → after + length rows ≡ x → (y : ℕ) → after < y → y ≤ x → IsSome (get held y)
all_there held after x rows there gapless long y low high =
    let here = row_at rows (y - after - 1) (omega arith) in
    let at : here.0.0 ≡ after + (y - after - 1) + 1 = gapless_get after rows (y - after - 1) here.0 gapless here.1 in
    let is : y ≡ here.0.0 = omega arith in
    is_there (get held y) here.0.1 (ap (get held) is ∙ there (y - after - 1) here.0 here.1)

-- ---- the outcomes of a replay from a checkpoint
pub missing_from : (held : Content) (x : ℕ) (c : CheckpointRecord) (rows : List Row) (y : ℕ) → rows ≡ between held.receipts c.head.interval x → IsFirstGap c.head.interval x rows y → RefusesFrom held x c (MissingReceipt y)
missing_from held x c rows y is gap =
    let all = between-AreAllBetween held.receipts c.head.interval x in
    let front = gap.0 in let back = gap.1 in
    let parts : between held.receipts c.head.interval x ≡ front ++ back = sym is ∙ gap.2 in
    let at : y ≡ c.head.interval + length front + 1 = gap.4 in
    let high : y ≤ x = ascend_within y x back gap.5 in
    let held_at : (i : ℕ) (row : Row) → slice_get (front ++ back) i ≡ Some row → get held.receipts row.0 ≡ Some row.1 = λ i row there. all.are_held i row (ap (λ rs. slice_get rs i) parts ∙ there) in (
      omega arith,
      high,
      none_if (get held.receipts y) (λ bytes there.
          let found = all.are_all y bytes (omega arith) high there in
          either found.0 bytes (at_either front back found.0 (y, bytes) (ap (λ rs. slice_get rs found.0) (sym parts) ∙ found.1))),
      λ z low below.
          let here = row_at front (z - c.head.interval - 1) (omega arith) in
          let number : here.0.0 ≡ c.head.interval + (z - c.head.interval - 1) + 1 = gapless_get c.head.interval front (z - c.head.interval - 1) here.0 gap.3 here.1 in
          let same : z ≡ here.0.0 = omega arith in
          is_there (get held.receipts z) here.0.1 (ap (get held.receipts) same ∙ held_at (z - c.head.interval - 1) here.0 (at_front front back (z - c.head.interval - 1) here.0 here.1)),
    )
  where
    either : (i : ℕ) (bytes : List ℕ) → (slice_get gap.0 i ≡ Some (y, bytes)) ⊎ ((j : ℕ) × (slice_get gap.1 j ≡ Some (y, bytes))) → ⊥
    either i bytes (inl there) =
        let within = place_within gap.0 i (y, bytes) there in
        let number : y ≡ c.head.interval + i + 1 = gapless_get c.head.interval gap.0 i (y, bytes) gap.3 there in
        let at : y ≡ c.head.interval + length gap.0 + 1 = gap.4 in
        absurd (omega arith)
    either i bytes (inr there) = let above : y < y = ascend_above y x gap.1 there.0 (y, bytes) gap.5 there.1 in absurd (omega arith)

-- what stands there is no receipt, if its bytes are none
no_receipt : (held : Records) (y z : ℕ) (bytes : List ℕ) → get held y ≡ Some bytes → z ≡ y → ((r : ReceiptRecord) → SpellsReceipt r bytes → r.interval ≡ y → ⊥) → (r : ReceiptRecord) → IsReceiptAt held z r → ⊥
no_receipt held y z bytes there at none r is =
    let same : is.0 ≡ bytes = some_once is.0 bytes (sym is.1 ∙ ap (get held) at ∙ there) in
    none r (subst (SpellsReceipt r) same is.2) (is.3 ∙ at)

-- what the rows before one make, and that one refuses
pub row_from : (held : Content) (x : ℕ) (c : CheckpointRecord) (rows : List Row) (fault : ReplayFault) → rows ≡ between held.receipts c.head.interval x → AreGapless c.head.interval rows → c.head.interval + length rows ≡ x
    → RefusesRows c.head.pid c.n (process_of_checkpoint c) rows fault → RefusesFrom held x c fault
row_from held x c rows fault is gapless long refuses =
    let all = between-AreAllBetween held.receipts c.head.interval x in
    let front = refuses.0 in let row = refuses.1 in let back = refuses.2 in
    let parts : rows ≡ front ++ row ∷ back = refuses.3 in
    let rs = refuses.4 in
    let there : AreHeld held.receipts rows = λ i r at. all.are_held i r (ap (λ l. slice_get l i) (sym is) ∙ at) in
    let there_parts : AreHeld held.receipts (front ++ row ∷ back) = λ i r at. there i r (ap (λ l. slice_get l i) parts ∙ at) in
    let gapless_parts : AreGapless c.head.interval (front ++ row ∷ back) = subst (AreGapless c.head.interval) parts gapless in
    let held_front : AreHeld held.receipts front = λ i r at. there_parts i r (at_front front (row ∷ back) i r at) in
    let here : slice_get (front ++ row ∷ back) (length front) ≡ Some row = at_middle front back row in
    let at : row.0 ≡ c.head.interval + length front + 1 = gapless_get c.head.interval (front ++ row ∷ back) (length front) row gapless_parts here in
    let within : length front < length (front ++ row ∷ back) = place_within (front ++ row ∷ back) (length front) row here in
    let same_long : length rows ≡ length (front ++ row ∷ back) = ap length parts in
    let all_long : length rs ≡ length front = rows_long front rs refuses.5 in
    let comes : ComesFrom held x c row.0 refuses.6 = record {
      receipts = rs;
      stored = stored_rows held.receipts c.head.interval front rs held_front (gapless_front c.head.interval front (row ∷ back) gapless_parts) refuses.5;
      next = omega arith;
      within = omega arith;
      replayed = refuses.7;
    } in
    go fault refuses.8 (all_there held.receipts c.head.interval x rows there gapless long) comes (there_parts (length front) row here)
  where
    go : (fault : ReplayFault) → RefusesRow c.head.pid c.n refuses.6 refuses.1 fault → HasReceipts held x c → ComesFrom held x c refuses.1.0 refuses.6 → get held.receipts refuses.1.0 ≡ Some refuses.1.1 → RefusesFrom held x c fault
    go NoCheckpoint why has comes there = absurd why
    go (Damaged y) why has comes there =
        (has, (refuses.6, subst (λ z. ComesFrom held x c z refuses.6) (sym why.0) comes, no_receipt held.receipts refuses.1.0 y refuses.1.1 there why.0 why.1))
    go (MissingReceipt y) why has comes there = absurd why
    go (Mismatch y) why has comes there = (
      has,
      (
        refuses.6,
        subst (λ z. ComesFrom held x c z refuses.6) (sym why.0) comes,
        why.1.0,
        (refuses.1.1, ap (get held.receipts) why.0 ∙ there, why.1.1, why.1.2 ∙ sym why.0),
        why.1.3,
      ),
    )
    go Fault why has comes there = tt
    go Memory why has comes there = tt

-- what all rows make
pub rows_from_checkpoint : (held : Content) (x : ℕ) (c : CheckpointRecord) (rows : List Row) (rs : List ReceiptRecord) (first core : CoreState) → rows ≡ between held.receipts c.head.interval x → AreGapless c.head.interval rows → c.head.interval + length rows ≡ x
    → SpellRows rows rs → length c.head.vec ≡ c.n → first.own ≡ c.head.pid → first.now ≡ process_of_checkpoint c → core.own ≡ first.own → cluster_size core.now ≡ cluster_size first.now → Replayed first.own (cluster_size first.now) first.now rs core.now → IsReplayFrom held x c core
rows_from_checkpoint held x c rows rs first core is gapless long spell places own now own_kept size_kept replayed =
    let all = between-AreAllBetween held.receipts c.head.interval x in
    let there : AreHeld held.receipts rows = λ i r at. all.are_held i r (ap (λ l. slice_get l i) (sym is) ∙ at) in
    let size : cluster_size first.now ≡ c.n = ap cluster_size now ∙ places in
    let all_long : length rs ≡ length rows = rows_long rows rs spell in
    record {
      all = all_there held.receipts c.head.interval x rows there gapless long;
      own = own_kept ∙ own;
      size = size_kept ∙ size;
      receipts = rs;
      stored = stored_rows held.receipts c.head.interval rows rs there gapless spell;
      last = omega arith;
      replayed = subst (λ (p : Process). Replayed c.head.pid c.n p rs core.now) now (subst (λ k. Replayed c.head.pid k first.now rs core.now) size (subst (λ o. Replayed o (cluster_size first.now) first.now rs core.now) own replayed));
    }

-- what they refuse, where they begin in the checkpoint's process
pub rows_refused : (held : Content) (x : ℕ) (c : CheckpointRecord) (rows : List Row) (fault : ReplayFault) (first : CoreState) → rows ≡ between held.receipts c.head.interval x → AreGapless c.head.interval rows → c.head.interval + length rows ≡ x
    → length c.head.vec ≡ c.n → first.own ≡ c.head.pid → first.now ≡ process_of_checkpoint c → RefusesRows first.own (cluster_size first.now) first.now rows fault → RefusesFrom held x c fault
rows_refused held x c rows fault first is gapless long places own now why =
    let size : cluster_size first.now ≡ c.n = ap cluster_size now ∙ places in
    row_from held x c rows fault is gapless long
    (subst (λ (p : Process). RefusesRows c.head.pid c.n p rows fault) now (subst (λ k. RefusesRows c.head.pid k first.now rows fault) size (subst (λ o. RefusesRows o (cluster_size first.now) first.now rows fault) own why)))

-- ---- bytes that are not decoded
no_checkpoint : (y : ℕ) (bytes : List ℕ) (e : DecodeError) → ((version : Version) (r : CheckpointRecord) → SpellsCheckpoint version r bytes → Fails e (Ok r)) → RefusesCheckpoint y bytes (damage y e)
no_checkpoint y bytes decoding.Memory fails = tt
no_checkpoint y bytes decoding.Short fails = (refl, λ r spelled at. let e = fails spelled.0 r spelled.1 (λ m. cc) in cc)
no_checkpoint y bytes decoding.Kind fails = (refl, λ r spelled at. let e = fails spelled.0 r spelled.1 (λ m. cc) in cc)
no_checkpoint y bytes decoding.Version fails = (refl, λ r spelled at. let e = fails spelled.0 r spelled.1 (λ m. cc) in cc)
no_checkpoint y bytes (decoding.Field place) fails = (refl, λ r spelled at. let e = fails spelled.0 r spelled.1 (λ m. cc) in cc)
no_checkpoint y bytes decoding.Trailing fails = (refl, λ r spelled at. let e = fails spelled.0 r spelled.1 (λ m. cc) in cc)

pub checkpoint_damaged : (y : ℕ) (bytes : List ℕ) (fault : ReplayFault) (e : DecodeError) → fault ≡ damage y e → ((version : Version) (r : CheckpointRecord) → SpellsCheckpoint version r bytes → Fails e (Ok r)) → RefusesCheckpoint y bytes fault
checkpoint_damaged y bytes fault e is fails = subst (RefusesCheckpoint y bytes) (sym is) (no_checkpoint y bytes e fails)

no_record : (y : ℕ) (bytes : List ℕ) (e : DecodeError) → ((r : ReceiptRecord) → SpellsReceipt r bytes → Fails e (Ok r)) → RefusesBytes y bytes (damage y e)
no_record y bytes decoding.Memory fails = tt
no_record y bytes decoding.Short fails = (refl, λ r spelled at. let e = fails r spelled (λ m. cc) in cc)
no_record y bytes decoding.Kind fails = (refl, λ r spelled at. let e = fails r spelled (λ m. cc) in cc)
no_record y bytes decoding.Version fails = (refl, λ r spelled at. let e = fails r spelled (λ m. cc) in cc)
no_record y bytes (decoding.Field place) fails = (refl, λ r spelled at. let e = fails r spelled (λ m. cc) in cc)
no_record y bytes decoding.Trailing fails = (refl, λ r spelled at. let e = fails r spelled (λ m. cc) in cc)

pub receipt_damaged : (y : ℕ) (bytes : List ℕ) (fault : ReplayFault) (e : DecodeError) → fault ≡ damage y e → ((r : ReceiptRecord) → SpellsReceipt r bytes → Fails e (Ok r)) → RefusesBytes y bytes fault
receipt_damaged y bytes fault e is fails = subst (RefusesBytes y bytes) (sym is) (no_record y bytes e fails)

-- another checkpoint than the one that is spelled names no other interval
pub names_another : (y : ℕ) (found r : CheckpointRecord) (read due : Result CheckpointRecord DecodeError) → read ≡ Ok found → due ≡ Ok r → due ≡ read → found.head.interval ≢ y → r.head.interval ≡ y → ⊥
names_another y found r read due is at same other named =
    let equal : r ≡ found = cc in
    other (ap (λ (c : CheckpointRecord). c.head.interval) (sym equal) ∙ named)

-- ---- with the checkpoint that is effective
pub begins_with : (held : Content) (x y : ℕ) (bytes : List ℕ) (c : CheckpointRecord) → IsEffective held.checkpoints x y → get held.checkpoints y ≡ Some bytes → IsSpelled c bytes → c.head.interval ≡ y → BeginsWith anyone held x c
begins_with held x y bytes c effective there spelled at = record {
  effective = subst (IsEffective held.checkpoints x) (sym at) effective;
  stored = (bytes, ap (get held.checkpoints) at ∙ there, spelled, refl);
  meant = tt;
}

pub start_refused : (held : Content) (x y : ℕ) (bytes : List ℕ) (fault : ReplayFault) → IsEffective held.checkpoints x y → get held.checkpoints y ≡ Some bytes → RefusesCheckpoint y bytes fault → RefusesStart held x fault
start_refused held x y bytes NoCheckpoint effective there why = absurd why
start_refused held x y bytes (Damaged z) effective there why = record {
  effective = subst (IsEffective held.checkpoints x) (sym why.0) effective;
  damaged = λ c is meant.
      let same : is.0 ≡ bytes = some_once is.0 bytes (sym is.1 ∙ ap (get held.checkpoints) why.0 ∙ there) in
      why.1 c (subst (IsSpelled c) same is.2) (is.3 ∙ why.0);
}
start_refused held x y bytes (MissingReceipt z) effective there why = absurd why
start_refused held x y bytes (Mismatch z) effective there why = absurd why
start_refused held x y bytes Fault effective there why = tt
start_refused held x y bytes Memory effective there why = tt

pub refused_at_start : (whose : Option (ℕ × ℕ)) (held : Content) (x : ℕ) (fault : ReplayFault) → RefusesStart held x fault → Refuses whose held x fault
refused_at_start whose held x NoCheckpoint why = why
refused_at_start whose held x (Damaged y) why = inl (record { effective = why.effective; damaged = λ c is meant. why.damaged c is tt })
refused_at_start whose held x (MissingReceipt y) why = absurd why
refused_at_start whose held x (Mismatch y) why = absurd why
refused_at_start whose held x Fault why = tt
refused_at_start whose held x Memory why = tt

stands_before : (whose : Option (ℕ × ℕ)) (held : Content) (x y : ℕ) (c : CheckpointRecord) (s : Process) → BeginsWith whose held x c → HasReceipts held x c → ComesFrom held x c y s → ContentReplaysTo whose held x y c.head.pid c.n s
stands_before whose held x y c s begins has comes =
    let next : y ≡ c.head.interval + length comes.receipts + 1 = comes.next in (
      omega arith,
      comes.within,
      record { checkpoint = c; begins = begins; all_there = has; pid = refl; size = refl; receipts = comes.receipts; stored = comes.stored; last = omega arith; replayed = comes.replayed },
    )

pub refused_from : (whose : Option (ℕ × ℕ)) (held : Content) (x : ℕ) (c : CheckpointRecord) (fault : ReplayFault) → BeginsWith whose held x c → RefusesFrom held x c fault → Refuses whose held x fault
refused_from whose held x c NoCheckpoint begins why = absurd why
refused_from whose held x c (Damaged y) begins why = inr (c.head.pid, c.n, why.1.0, stands_before whose held x y c why.1.0 begins why.0 why.1.1, why.1.2)
refused_from whose held x c (MissingReceipt y) begins why = record { checkpoint = c; begins = begins; above = why.0; within = why.1; none = why.2; before = why.3 }
refused_from whose held x c (Mismatch y) begins why = (c.head.pid, c.n, why.1.0, stands_before whose held x y c why.1.0 begins why.0 why.1.1, why.1.2, why.1.3, λ k w turns fits. fits_not_both c.head.pid c.n k why.1.0 w why.1.2 turns fits why.1.4)
refused_from whose held x c Fault begins why = tt
refused_from whose held x c Memory begins why = tt

pub replayed_from : (whose : Option (ℕ × ℕ)) (held : Content) (x : ℕ) (c : CheckpointRecord) (core : CoreState) → BeginsWith whose held x c → IsReplayFrom held x c core → StandsAfter whose held x x core.own (cluster_size core.now) core.now
replayed_from whose held x c core begins is = record {
  checkpoint = c;
  begins = begins;
  all_there = is.all;
  pid = sym is.own;
  size = sym is.size;
  receipts = is.receipts;
  stored = is.stored;
  last = is.last;
  replayed = subst (λ o. Replayed o (cluster_size core.now) (process_of_checkpoint c) is.receipts core.now) (sym is.own) (subst (λ n. Replayed c.head.pid n (process_of_checkpoint c) is.receipts core.now) (sym is.size) is.replayed);
}

pub refused_for_no_matter : (whose : Option (ℕ × ℕ)) (held : Content) (x : ℕ) (fault : ReplayFault) → IsNoMatterOfContent fault → Refuses whose held x fault
refused_for_no_matter whose held x fault (inl is) = subst (Refuses whose held x) (sym is) tt
refused_for_no_matter whose held x fault (inr is) = subst (Refuses whose held x) (sym is) tt

-- with the checkpoint of a process that is meant
pub meant_begins : (whose : Option (ℕ × ℕ)) (held : Content) (x : ℕ) (c : CheckpointRecord) → BeginsWith anyone held x c → IsCheckpointOf whose c → BeginsWith whose held x c
meant_begins whose held x c begins meant = record { effective = begins.effective; stored = begins.stored; meant = meant }
