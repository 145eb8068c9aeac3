-- Rows as they are found, one after another.
use Rattle.std.proofs.Common.{◌≡◌, ◌≢◌, ℕ, zero, suc, ◌+◌, ◌<◌, ◌≤◌, List, [], ◌∷◌, ◌++◌, Vec, length, take, drop, get_or, refl, sym, ap, ◌∙◌, subst, arith}
use Rattle.std.specs.declared.alloc.Global.{Global}
use Rattle.std.proofs.lemmas.List.{map_more, map-append, length-map, length-take-le, take-append-drop}
use Rattle.om_format.specs.Receipts.{ReceiptRecord, SpellsReceipt}
use Rattle.om_stable.specs.Content.{rows_of}
use Rattle.om_process.specs.Process.{Process, delivered}
use Rattle.om_process.specs.Replays.{Replayed, received_of}
use Rattle.om_process.specs.steps.Pieces.{receipts_of}
use Rattle.om_process.specs.steps.Rows.{Ascend, AreGapless, IsFirstGap, SpellRows}
use Rattle.om_process.proofs.Runs.{leads_grow, replay_leads}

abbrev Row : Type 0
Row = ℕ × List ℕ

abbrev Found : Type 0
Found = List (ℕ × Vec ℕ Global)

abbrev row_of : ℕ × Vec ℕ Global → Row
row_of e = (e.0, e.1.items)

-- ---- replays, one receipt more
pub replayed_more : (own n : ℕ) (rs : List ReceiptRecord) (s m t : Process) (r : ReceiptRecord) → Replayed own n s rs m → Replayed own n m (r ∷ []) t → Replayed own n s (rs ++ r ∷ []) t
replayed_more own n [] s m t r a b = subst (λ x. Replayed own n x (r ∷ []) t) a b
replayed_more own n (q ∷ rs) s m t r a b = (a.0, a.1, a.2, a.3, replayed_more own n rs (delivered own a.1 (received_of q)) m t r a.4 b)

-- each begins an interval
pub replayed_interval : (own n : ℕ) (rs : List ReceiptRecord) (s t : Process) → Replayed own n s rs t → t.interval ≡ s.interval + length rs
replayed_interval own n rs s t a =
    let grown = (leads_grow own n (receipts_of rs) s t (replay_leads own n rs s t a)).0 in
    grown ∙ ap (λ k. s.interval + k) (length-map rs received_of)

-- ---- rows, one more
spell_push : (rows : List Row) (rs : List ReceiptRecord) (row : Row) (r : ReceiptRecord) → SpellRows rows rs → SpellsReceipt r row.1 → r.interval ≡ row.0 → SpellRows (rows ++ row ∷ []) (rs ++ r ∷ [])
spell_push [] [] row r a spells at = ((spells, at), tt)
spell_push [] (q ∷ rs) row r a spells at = absurd a
spell_push (x ∷ rows) [] row r a spells at = absurd a
spell_push (x ∷ rows) (q ∷ rs) row r a spells at = (a.0, spell_push rows rs row r a.1 spells at)

gapless_push : (after : ℕ) (rows : List Row) (row : Row) → AreGapless after rows → row.0 ≡ after + length rows + 1 → AreGapless after (rows ++ row ∷ [])
gapless_push after [] row a at = (omega arith, tt)
gapless_push after (x ∷ rows) row a at = (a.0, gapless_push (after + 1) rows row a.1 (omega arith))

taken_more : (found : Found) (i : ℕ) (x : ℕ × Vec ℕ Global) → i < length found → x ≡ get_or found i x → rows_of (take (i + 1) found) ≡ rows_of (take i found) ++ row_of x ∷ []
taken_more found i x within at = map_more row_of found i x within ∙ ap (λ e. rows_of (take i found) ++ row_of e ∷ []) (sym at)

pub taken_long : (found : Found) (i : ℕ) → i ≤ length found → length (rows_of (take i found)) ≡ i
taken_long found i within = length-map (take i found) row_of ∙ length-take-le i found within

pub gapless_more : (after : ℕ) (found : Found) (i : ℕ) (x : ℕ × Vec ℕ Global) → i < length found → x ≡ get_or found i x → AreGapless after (rows_of (take i found)) → x.0 ≡ after + i + 1 → AreGapless after (rows_of (take (i + 1) found))
gapless_more after found i x within at a number =
    let long = taken_long found i (omega arith) in
    subst (AreGapless after) (sym (taken_more found i x within at)) (gapless_push after (rows_of (take i found)) (row_of x) a (omega arith))

pub spelled_more : (found : Found) (i : ℕ) (x : ℕ × Vec ℕ Global) (rs : List ReceiptRecord) (r : ReceiptRecord) → i < length found → x ≡ get_or found i x → SpellRows (rows_of (take i found)) rs → SpellsReceipt r x.1.items → r.interval ≡ x.0 → SpellRows (rows_of (take (i + 1) found)) (rs ++ r ∷ [])
spelled_more found i x rs r within at so_far spells interval =
    subst (λ rows. SpellRows rows (rs ++ r ∷ [])) (sym (taken_more found i x within at)) (spell_push (rows_of (take i found)) rs (row_of x) r so_far spells interval)

pub rows_long : (rows : List Row) (rs : List ReceiptRecord) → SpellRows rows rs → length rs ≡ length rows
rows_long [] [] spell = refl
rows_long [] (r ∷ rs) spell = absurd spell
rows_long (row ∷ rows) [] spell = absurd spell
rows_long (row ∷ rows) (r ∷ rs) spell = ap suc (rows_long rows rs spell.1)

-- the interval of a row, where there is no gap
pub gapless_at : (after : ℕ) (found : Found) (i : ℕ) (x : ℕ × Vec ℕ Global) → i < length found → x ≡ get_or found i x → AreGapless after (rows_of found) → x.0 ≡ after + i + 1
gapless_at after [] i x within at a = absurd (omega arith)
gapless_at after (e ∷ found) zero x within at a = let first : e.0 ≡ after + 1 = a.0 in let same : x.0 ≡ e.0 = ap (λ (y : ℕ × Vec ℕ Global). y.0) at in omega arith
gapless_at after (e ∷ found) (suc i) x within at a = let rest : x.0 ≡ after + 1 + i + 1 = gapless_at (after + 1) found i x (omega arith) at a.1 in omega arith

-- the rows from a place on
pub rows_from : (found : Found) (i : ℕ) (x : ℕ × Vec ℕ Global) → i < length found → x ≡ get_or found i x → rows_of (drop i found) ≡ row_of x ∷ rows_of (drop (i + 1) found)
rows_from [] i x within at = absurd (omega arith)
rows_from (e ∷ found) zero x within at = ap (λ y. row_of y ∷ rows_of found) (sym at)
rows_from (e ∷ found) (suc i) x within at =
    let next : suc i + 1 ≡ suc (i + 1) = omega arith in
    rows_from found i x (omega arith) at ∙ ap (λ k. row_of x ∷ rows_of (drop k (e ∷ found))) (sym next)

pub rows_parted : (found : Found) (i : ℕ) → rows_of found ≡ rows_of (take i found) ++ rows_of (drop i found)
rows_parted found i = ap rows_of (sym (take-append-drop i found)) ∙ map-append row_of (take i found) (drop i found)

-- ---- gaps
-- what ascends from above an interval ascends from above the next, where its first row is not of that
pub ascend_past : (after x : ℕ) (row : Row) (rows : List Row) → row.0 ≢ after + 1 → Ascend after x (row ∷ rows) → Ascend (after + 1) x (row ∷ rows)
ascend_past after x row rows other a = let above : after < row.0 = a.0 in (omega arith, a.1)

-- and ends at x
pub ascend_within : (after x : ℕ) (rows : List Row) → Ascend after x rows → after ≤ x
ascend_within after x [] a = a
ascend_within after x (row ∷ rows) a = let above : after < row.0 = a.0 in let rest : row.0 ≤ x = ascend_within row.0 x rows a.1 in omega arith

pub first_gap : (after x : ℕ) (found : Found) (i y : ℕ) → i ≤ length found → AreGapless after (rows_of (take i found)) → y ≡ after + i + 1 → Ascend y x (rows_of (drop i found)) → IsFirstGap after x (rows_of found) y
first_gap after x found i y within gapless at ascend =
    let long = taken_long found i within in
    (rows_of (take i found), rows_of (drop i found), rows_parted found i, gapless, omega arith, ascend)

-- where a row is not of the interval that is next, that one is missing
pub gap_before : (after x : ℕ) (found : Found) (i last : ℕ) (item : ℕ × Vec ℕ Global) → i < length found → item ≡ get_or found i item → AreGapless after (rows_of (take i found)) → last ≡ after + i
    → Ascend last x (rows_of (drop i found)) → item.0 ≢ last + 1 → IsFirstGap after x (rows_of found) (last + 1)
gap_before after x found i last item within at gapless is ascend other =
    let rest = rows_from found i item within at in
    let past : Ascend (last + 1) x (rows_of (drop i found)) = subst (Ascend (last + 1) x) (sym rest) (ascend_past last x (row_of item) (rows_of (drop (i + 1) found)) other (subst (Ascend last x) rest ascend)) in
    first_gap after x found i (last + 1) (omega arith) gapless (omega arith) past

-- the interval of a row is above the last one, and at or below x
pub row_within : (x : ℕ) (found : Found) (i last : ℕ) (item : ℕ × Vec ℕ Global) → i < length found → item ≡ get_or found i item → Ascend last x (rows_of (drop i found)) → (last < item.0) × (item.0 ≤ x)
row_within x found i last item within at ascend =
    let here = subst (Ascend last x) (rows_from found i item within at) ascend in
    (here.0, ascend_within item.0 x (rows_of (drop (i + 1) found)) here.1)
