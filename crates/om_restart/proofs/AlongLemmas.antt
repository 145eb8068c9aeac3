-- The rows of a store and the receipts that they tell, against what it holds.
use Rattle.std.proofs.Common.{◌≡◌, ◌≢◌, ℕ, zero, suc, ◌+◌, ◌<◌, ◌≤◌, List, [], ◌∷◌, ◌++◌, length, get_or, take, refl, sym, ap, ◌∙◌, subst, inl, inr, arith, get_or-set_same, get_or-set_other}
use Rattle.std.specs.Prelude.{◌⊎◌, Option, Some, None, true, false, slice_index, slice_get, slice_set, min}
use Rattle.std.specs.FinMap.{get}
use Rattle.std.proofs.lemmas.List.{length-set}
use Rattle.std.specs.List.{All, Any}
use Rattle.std.specs.Prelude.{◌==◌, Bool, Vec, IsSome, IsTrue, is_some, not}
use Rattle.std.specs.declared.alloc.Global.{Global}
use Rattle.std.proofs.lemmas.Bool.{cases_lt}
use Rattle.std.proofs.lemmas.Bool.Decides.{nat_tests}
use Rattle.std.proofs.lemmas.Option.{get_or_from_slice_get, slice_get-get_or}
use Rattle.om_format.specs.Receipts.{ReceiptRecord}
use Rattle.om_format.specs.Checkpoints.{CheckpointRecord, IsCheckpoint, IsSpelled}
use Rattle.om_format.specs.declared.version.Version.{Version}
use Rattle.om_format.proofs.Checkpoints.{checkpoint_again}
use Rattle.om_format.specs.steps.CheckpointReading.{checkpoint_at}
use Rattle.om_format.proofs.Holding.{of_ok}
use Rattle.om_format.proofs.Lawful.{checkpoint_holds}
use Rattle.om_look.specs.Rows.{AreRowsOf, AreSegments, FollowOn, IsReceiptOf, IsSegment, base_row, interval_before, next_row, receipts_behind, rows_of_segments}
use Rattle.om_process.specs.Stored.{IsReceiptAt}
use Rattle.om_process.specs.declared.limits.TheConstants.{LAST_INTERVAL}
use Rattle.om_process.specs.declared.row.PendingRow.{PendingRow}
use Rattle.om_stable.specs.Content.{Content, between, rows_of}
use Rattle.om_stable.proofs.BetweenLemmas.{between-AreAllBetween}
use Rattle.om_restart.specs.Beyond.{HasStray}
use Rattle.om_restart.specs.Senders.{AreSendersIn, GoOnAlong}
use Rattle.om_restart.specs.steps.Receiving.{AreReceivedBy, GoOnBehind, IsFirstChange, IsFrom}
use Rattle.om_restart.proofs.SenderLemmas.{first_change_one}

-- what bytes spell is lawful
spelled_holds : (c : CheckpointRecord) (bytes : List ℕ) → IsSpelled c bytes → IsCheckpoint c
spelled_holds c bytes spelled =
    of_ok (λ (x : Version × CheckpointRecord). IsCheckpoint x.1) (checkpoint_at bytes) (spelled.0, c) (checkpoint_holds bytes) (checkpoint_again bytes spelled.0 c spelled.1)

-- the row is that of a receipt which is stored, by the row before it
record IsReceiptRow (own n : ℕ) (held : Content) (before row : PendingRow) : Type 0 where
  r : ReceiptRecord
  stored : IsReceiptAt held.receipts row.x r
  is : IsReceiptOf own n row.x r
  next : row ≡ next_row own before r

-- each row, behind the one before, is that of a checkpoint or of a receipt
AreAlong : ℕ → ℕ → Content → PendingRow → List PendingRow → Type 0
AreAlong own n held before [] = Unit {0}
AreAlong own n held before (row ∷ rows) =
    (length row.got ≡ n) × ((row.ckpt ≡ true) ⊎ IsReceiptRow own n held before row) × AreAlong own n held row rows

module _ (own n : ℕ) (held : Content) where
  -- the records are held
  AreHeld : List (ℕ × List ℕ) → Type 0
  AreHeld records = (i : ℕ) (e : ℕ × List ℕ) → slice_get records i ≡ Some e → get held.receipts e.0 ≡ Some e.1

  along_append : (before : PendingRow) (rows more : List PendingRow) → AreAlong own n held before rows → ((b : PendingRow) → AreAlong own n held b more)
      → AreAlong own n held before (rows ++ more)
  unfolding AreAlong
  along_append before [] more are then = then before
  along_append before (row ∷ rows) more are then = (are.0, are.1, along_append row rows more are.2 then)

  next_got : (before : PendingRow) (r : ReceiptRecord) → length before.got ≡ n → length (next_row own before r).got ≡ n
  next_got before r long = length-set before.got r.from (slice_index before.got r.from + 1) ∙ long

  along_follow : (before : PendingRow) (records : List (ℕ × List ℕ)) (rows : List PendingRow) → AreHeld records → length before.got ≡ n
      → FollowOn own n before records rows → AreAlong own n held before rows
  unfolding AreAlong AreHeld
  along_follow before records [] are long follow = tt
  along_follow before [] (row ∷ rows) are long follow = absurd follow
  along_follow before (e ∷ records) (row ∷ rows) are long follow =
      let r = follow.0 in
      let next : row ≡ next_row own before r = follow.5 in
      let place : row.x ≡ e.0 = ap (λ (x : PendingRow). x.x) next ∙ sym follow.3 in
      let wide : length row.got ≡ n = subst (λ (x : PendingRow). length x.got ≡ n) (sym next) (next_got before r long) in
      let there : get held.receipts row.x ≡ Some e.1 = subst (λ x. get held.receipts x ≡ Some e.1) (sym place) (are zero e refl) in
      let is : IsReceiptOf own n row.x r = subst (λ x. IsReceiptOf own n x r) (sym place) follow.2 in
      let one : IsReceiptRow own n held before row = record { r = r; stored = (e.1, there, follow.1, is.interval); is = is; next = next } in
      (wide, inr one, along_follow row records rows (λ i f at. are (suc i) f at) wide follow.6)

  segment_got : (to : ℕ) (c : CheckpointRecord) (behind : List PendingRow) → IsSegment own n held to c behind → length c.head.got ≡ n
  segment_got to c behind s = (spelled_holds c s.stored.0 s.stored.2).got ∙ s.size

  along_segments : (o : Option ℕ) (segments : List (CheckpointRecord × List PendingRow)) (before : PendingRow) → AreSegments own n held o segments
      → AreAlong own n held before (rows_of_segments segments)
  unfolding AreAlong AreHeld
  along_segments None [] before are = tt
  along_segments None (s ∷ more) before are = absurd are
  along_segments (Some to) [] before are = tt
  along_segments (Some to) (s ∷ more) before are =
      let wide = segment_got to s.0 s.1 are.0 in
      let all = between-AreAllBetween held.receipts s.0.head.interval (min (to + 1) LAST_INTERVAL) in
      let follow = along_follow (base_row s.0) (receipts_behind held s.0.head.interval to) s.1 all.are_held wide are.0.follow in
      (wide, inl refl, along_append (base_row s.0) s.1 (rows_of_segments more) follow (λ b. along_segments (interval_before s.0.head.interval) more b are.1))

  first_is_checkpoint : (o : Option ℕ) (segments : List (CheckpointRecord × List PendingRow)) (row : PendingRow)
      → slice_get (rows_of_segments segments) 0 ≡ Some row → row.ckpt ≡ true
  first_is_checkpoint o [] row at = cc
  first_is_checkpoint o (s ∷ more) row at = let same : base_row s.0 ≡ row = cc in ap (λ (x : PendingRow). x.ckpt) (sym same)

  -- a row that is of no checkpoint, with the one before it
  receipt_row : (b : PendingRow) (rows : List PendingRow) (i : ℕ) (before row : PendingRow) → AreAlong own n held b rows
      → slice_get rows i ≡ Some before → slice_get rows (suc i) ≡ Some row → row.ckpt ≡ false
      → (length before.got ≡ n) × IsReceiptRow own n held before row
  unfolding AreAlong
  receipt_row b [] i before row are at next not = cc
  receipt_row b (a ∷ []) zero before row are at next not = let none : ◌≡◌ {A = Option PendingRow} None (Some row) = next in cc
  receipt_row b (a ∷ c ∷ rows) zero before row are at next not =
      let a_is : a ≡ before = cc in let c_is : c ≡ row = cc in
      let kind : (row.ckpt ≡ true) ⊎ IsReceiptRow own n held before row =
      subst (λ x. (x.ckpt ≡ true) ⊎ IsReceiptRow own n held before x) c_is (subst (λ x. (c.ckpt ≡ true) ⊎ IsReceiptRow own n held x c) a_is are.2.1) in
      (subst (λ (x : PendingRow). length x.got ≡ n) a_is are.0, elim kind [ inl ck ↦ absurd cc | inr one ↦ one ])
  receipt_row b (a ∷ rows) (suc i) before row are at next not = receipt_row a rows i before row are.2 at next not

  -- it is from the receipt's sender
  row_from : (before row : PendingRow) → length before.got ≡ n → (one : IsReceiptRow own n held before row) → IsFrom before row one.r.from
  row_from before row long one =
      let q = one.r.from in let old = before.got in
      let new = slice_set old q (slice_index old q + 1) in
      let in_old : q < length old = omega (arith, one.is.from, long) in
      let got : row.got ≡ new = ap (λ (x : PendingRow). x.got) one.next in
      let change : IsFirstChange old new q = record {
        in_old = in_old;
        in_new = let wide : length new ≡ length old = length-set old q (slice_index old q + 1) in omega (arith, in_old, wide);
        differs = λ same. let here : slice_index new q ≡ slice_index old q + 1 = get_or-set_same old q (slice_index old q + 1) 0 in_old in omega (arith, same, here);
        same = λ k lt. sym (get_or-set_other old q k (slice_index old q + 1) 0 (omega arith));
      } in
      record { receipt = ap (λ (x : PendingRow). x.ckpt) one.next; change = subst (λ l. IsFirstChange old l q) (sym got) change }

-- what goes on behind senders that are known goes on along what is stored
pub go_on_along : (own n : ℕ) (held : Content) (rows : List PendingRow) (received : List (ℕ × ℕ)) (first senders : List ℕ) → n ≤ 255
    → AreRowsOf own n held rows → AreReceivedBy (length rows) rows received → GoOnBehind received first senders
    → GoOnAlong own n held rows (length first) senders
go_on_along own n held rows received first senders few are were behind =
    let segments = are.0 in let b = base in
    let along : AreAlong own n held b rows = subst (AreAlong own n held b) (sym are.2) (along_segments own n held (Some LAST_INTERVAL) segments b are.1) in
    record {
      within = behind.within;
      stored = λ k q le at.
          let told = were.told (k + 1, q) (behind.follow k q le at) in
          let row = told.2 in
          let next : suc told.0 ≡ told.0 + 1 = omega arith in
          let pair = receipt_row own n held b rows told.0 told.1 row along told.4 (ap (λ j. slice_get rows j) next ∙ told.5) told.7.receipt in
          let one = pair.1 in
          let same : one.r.from ≡ q = first_change_one told.1.got row.got one.r.from q (row_from own n held told.1 row pair.0 one).change told.7.change in (
            one.r,
            subst (λ x. IsReceiptAt held.receipts x one.r) (sym told.6) one.stored,
            subst (λ x. IsReceiptOf own n x one.r) (sym told.6) one.is,
            same,
          );
      end = λ row there not. at_place there.0 row there.1 there.2 not;
    }
  where
    base : PendingRow
    base = record { ckpt = true; x = 0; vec = []; got = [] }

    at_place : (j : ℕ) (row : PendingRow) → j < length rows → get_or rows j row ≡ row → row.ckpt ≡ false → row.x ≢ length senders + 1
    at_place zero row lt is not =
        let at : slice_get rows 0 ≡ Some row = slice_get-get_or rows 0 row lt ∙ ap (λ (x : PendingRow). Some x) is in
        let first_one : row.ckpt ≡ true = first_is_checkpoint own n held (Some LAST_INTERVAL) are.0 row (subst (λ l. slice_get l 0 ≡ Some row) are.2 at) in
        cc
    at_place (suc i) row lt is not =
        let along : AreAlong own n held base rows = subst (AreAlong own n held base) (sym are.2) (along_segments own n held (Some LAST_INTERVAL) are.0 base are.1) in
        let before = get_or rows i row in
        let next : i + 1 ≡ suc i = omega arith in
        let there : slice_get rows (suc i) ≡ Some row = slice_get-get_or rows (suc i) row lt ∙ ap (λ (x : PendingRow). Some x) is in
        let at_row : slice_get rows (i + 1) ≡ Some row = ap (λ j. slice_get rows j) next ∙ there in
        let at_before : slice_get rows i ≡ Some before = slice_get-get_or rows i row (omega (arith, lt)) in
        let pair = receipt_row own n held base rows i before row along at_before there not in
        let one = pair.1 in
        let small : one.r.from < 256 = omega (arith, one.is.from, few) in
        behind.end (row.x, one.r.from) (were.all i one.r.from before row (omega (arith, lt)) at_before at_row (row_from own n held before row pair.0 one) small)

-- ---- whether there is a receipt
-- rows tell of receipts exactly where one of them is of one
pub received_some : (own n : ℕ) (held : Content) (rows : List PendingRow) (received : List (ℕ × ℕ)) → n ≤ 255
    → AreRowsOf own n held rows → AreReceivedBy (length rows) rows received
    → (0 < length received → Any (λ row. row.ckpt ≡ false) rows) × (Any (λ row. row.ckpt ≡ false) rows → 0 < length received)
received_some own n held rows received few are were = (there_is received were, λ any. at_place any.0 any.1 any.2 any.3 any.4)
  where
    base : PendingRow
    base = record { ckpt = true; x = 0; vec = []; got = [] }

    there_is : (received : List (ℕ × ℕ)) → AreReceivedBy (length rows) rows received → 0 < length received → Any (λ row. row.ckpt ≡ false) rows
    there_is [] were some = absurd (omega arith)
    there_is (e ∷ es) were some =
        let told = were.told e (0, some, refl) in
        let lt : told.0 + 1 < length rows = told.3 in
        (told.0 + 1, told.2, lt, get_or_from_slice_get rows (told.0 + 1) told.2 told.2 told.5, told.7.receipt)

    at_place : (j : ℕ) (row : PendingRow) → j < length rows → get_or rows j row ≡ row → row.ckpt ≡ false → 0 < length received
    at_place zero row lt is not =
        let at : slice_get rows 0 ≡ Some row = slice_get-get_or rows 0 row lt ∙ ap (λ (x : PendingRow). Some x) is in
        let first_one : row.ckpt ≡ true = first_is_checkpoint own n held (Some LAST_INTERVAL) are.0 row (subst (λ l. slice_get l 0 ≡ Some row) are.2 at) in
        absurd cc
    at_place (suc i) row lt is not =
        let along : AreAlong own n held base rows = subst (AreAlong own n held base) (sym are.2) (along_segments own n held (Some LAST_INTERVAL) are.0 base are.1) in
        let before = get_or rows i row in
        let next : i + 1 ≡ suc i = omega arith in
        let there : slice_get rows (suc i) ≡ Some row = slice_get-get_or rows (suc i) row lt ∙ ap (λ (x : PendingRow). Some x) is in
        let at_row : slice_get rows (i + 1) ≡ Some row = ap (λ j. slice_get rows j) next ∙ there in
        let at_before : slice_get rows i ≡ Some before = slice_get-get_or rows i row (omega (arith, lt)) in
        let pair = receipt_row own n held base rows i before row along at_before there not in
        let one = pair.1 in
        let small : one.r.from < 256 = omega (arith, one.is.from, few) in
        let has = were.all i one.r.from before row (omega (arith, lt)) at_before at_row (row_from own n held before row pair.0 one) small in
        let within = has.1 in
        omega (arith, within)

abbrev row_of : ℕ × Vec ℕ Global → ℕ × List ℕ
row_of e = (e.0, e.1.items)

-- receipts are found behind the newest row exactly where one is stored there
pub stray_found : (held : Content) (rows : List PendingRow) (newest : ℕ) (found : List (ℕ × Vec ℕ Global))
    → rows_of found ≡ between held.receipts newest LAST_INTERVAL → All (λ row. row.x ≤ newest) rows → (0 < newest → Any (λ row. row.x ≡ newest) rows)
    → (0 < length found → HasStray held rows) × (HasStray held rows → 0 < length found)
stray_found held rows newest found are low least = (there_is found are, λ stray. is_there found are stray)
  where
    there_is : (found : List (ℕ × Vec ℕ Global)) → rows_of found ≡ between held.receipts newest LAST_INTERVAL → 0 < length found → HasStray held rows
    there_is [] are some = absurd (omega arith)
    there_is (e ∷ es) are some =
        let all = between-AreAllBetween held.receipts newest LAST_INTERVAL in
        let at : slice_get (between held.receipts newest LAST_INTERVAL) 0 ≡ Some (row_of e) = subst (λ l. slice_get l 0 ≡ Some (row_of e)) are refl in
        let within = all.within 0 (row_of e) at in (
          e.0,
          ap is_some (all.are_held 0 (row_of e) at),
          omega (arith, within.0),
          within.1,
          λ k d lt. let here = low k d lt in omega (arith, here, within.0),
        )

    above : (y : ℕ) → 0 < y → All (λ row. row.x < y) rows → newest < y
    above y some all = elim (cases_lt 0 newest) [
      | inl more ↦
          let any = least more in
          let less : (get_or rows any.0 any.1).x < y = all any.0 any.1 any.2 in
          let same : (get_or rows any.0 any.1).x ≡ newest = ap (λ (x : PendingRow). x.x) any.3 ∙ any.4 in
          omega (arith, less, same)
      | inr none ↦ omega (arith, none, some)
    ]

    is_there : (found : List (ℕ × Vec ℕ Global)) → rows_of found ≡ between held.receipts newest LAST_INTERVAL → HasStray held rows → 0 < length found
    is_there (e ∷ es) are stray = omega arith
    is_there [] are stray =
        let all = between-AreAllBetween held.receipts newest LAST_INTERVAL in
        let y = stray.0 in
        let higher : newest < y = above y stray.2 stray.4 in
        by_bytes (get held.receipts y) refl stray.1 (λ bytes at.
        let place = all.are_all y bytes higher stray.3 at in
        let nowhere : slice_get (rows_of []) place.0 ≡ Some (y, bytes) = subst (λ l. slice_get l place.0 ≡ Some (y, bytes)) (sym are) place.1 in
        cc)
      where
        by_bytes : (o : Option (List ℕ)) → get held.receipts stray.0 ≡ o → IsSome (get held.receipts stray.0) → ((bytes : List ℕ) → get held.receipts stray.0 ≡ Some bytes → ⊥) → 0 < length (rows_of [])
        by_bytes None is some none = let no : is_some (get held.receipts stray.0) ≡ false = ap is_some is in absurd cc
        by_bytes (Some bytes) is some none = absurd (none bytes is)

-- those that were known are what the table has
pub kept_is : (known : List (ℕ × List ℕ)) (received : List (ℕ × ℕ)) (first senders : List ℕ) → GoOnBehind received first senders → AreSendersIn known first
    → AreSendersIn known (take (length first) senders)
kept_is known received first senders behind are = subst (AreSendersIn known) (sym behind.begins) are

-- a list is not empty exactly where it has a length
pub some_left : (n : ℕ) (b : Bool) → b ≡ (n == 0) → IsTrue (not b) → 0 < n
some_left n b is some = grind (arith, nat_tests)

pub left_some : (n : ℕ) (b : Bool) → b ≡ (n == 0) → 0 < n → IsTrue (not b)
left_some n b is some = grind (arith, nat_tests)
