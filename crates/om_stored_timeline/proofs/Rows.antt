-- Rows between two intervals: those without a gap are stored receipts, and behind them none is.
use Rattle.std.proofs.Common.{◌≡◌, ◌⊎◌, inl, inr, ℕ, zero, suc, ◌+◌, ◌<◌, ◌≤◌, List, [], ◌∷◌, ◌++◌, length, take, drop, Some, refl, sym, ap, ◌∙◌, subst, arith}
use Rattle.std.specs.Prelude.{slice_get}
use Rattle.std.specs.FinMap.{get}
use Rattle.std.proofs.lemmas.Bool.{cases_lt}
use Rattle.om_format.specs.Receipts.{ReceiptRecord, SpellsReceipt}
use Rattle.om_machine.specs.State.{State}
use Rattle.om_process.specs.Stored.{AreReceiptsAfter, IsReceiptAt}
use Rattle.om_process.specs.declared.limits.TheConstants.{LAST_INTERVAL}
use Rattle.om_process.specs.steps.Rows.{Ascend, AreGapless, SpellRows}
use Rattle.om_process.proofs.Basics.{some_once}
use Rattle.om_process.proofs.RowLemmas.{ascend_past, ascend_within, rows_long, rows_parted, taken_long}
use Rattle.om_process.proofs.StoredLemmas.{found_ascend}
use Rattle.om_stable.specs.Content.{Records, between, rows_of}
use Rattle.om_stable.proofs.BetweenLemmas.{between-AreAllBetween}
use Rattle.om_stored_timeline.specs.Following.{FitAlone, IsEnd, IsFollowed, behind_receipts}
use Rattle.om_stored_timeline.specs.steps.Walking.{EndsRows, Found, IsUnfit, Row}

abbrev AreHeld : Records → List Row → Type 0
AreHeld held rows = (i : ℕ) (row : Row) → slice_get rows i ≡ Some row → get held row.0 ≡ Some row.1

-- ---- the rows in front
stored_front : (held : Records) (after : ℕ) (front back : List Row) (rs : List ReceiptRecord) → AreHeld held (front ++ back) → AreGapless after front → SpellRows front rs → AreReceiptsAfter held after rs
stored_front held after [] back [] there gapless spelled = tt
stored_front held after [] back (r ∷ rs) there gapless spelled = absurd spelled
stored_front held after (row ∷ front) back [] there gapless spelled = absurd spelled
stored_front held after (row ∷ front) back (r ∷ rs) there gapless spelled = (
  (row.1, ap (get held) (sym gapless.0) ∙ there 0 row refl, spelled.0.0, spelled.0.1 ∙ gapless.0),
  stored_front held (after + 1) front back rs (λ i later at. there (suc i) later at) gapless.1 spelled.1,
)

-- ---- the rows behind them
ascend_behind : (after x : ℕ) (front back : List Row) → AreGapless after front → Ascend after x (front ++ back) → Ascend (after + length front) x back
ascend_behind after x [] back gapless ascend =
    let e : after ≡ after + 0 = omega arith in
    subst (λ i. Ascend i x back) e ascend
ascend_behind after x (row ∷ front) back gapless ascend =
    let e : after + 1 + length front ≡ after + suc (length front) = omega arith in
    subst (λ i. Ascend i x back) e (ascend_behind (after + 1) x front back gapless.1 (subst (λ i. Ascend i x (front ++ back)) gapless.0 ascend.1))

not_behind : (from x y : ℕ) (back : List Row) (row : Row) (i : ℕ) → y ≤ from → Ascend from x back → slice_get back i ≡ Some row → row.0 ≡ y → ⊥
not_behind from x y [] row i low ascend at is = cc
not_behind from x y (b ∷ back) row zero low ascend at is =
    let same : b.0 ≡ row.0 = ap (λ (r : Row). r.0) (some_once b row at) in
    let above : from < b.0 = ascend.0 in
    absurd (omega arith)
not_behind from x y (b ∷ back) row (suc i) low ascend at is =
    let above : from < b.0 = ascend.0 in
    not_behind b.0 x y back row i (omega arith) ascend.1 at is

not_among : (after x y : ℕ) (front back : List Row) (row : Row) (i : ℕ) → AreGapless after front → after + length front < y → Ascend y x back → slice_get (front ++ back) i ≡ Some row → row.0 ≡ y → ⊥
not_among after x y [] back row i gapless above ascend at is = not_behind y x y back row i (omega arith) ascend at is
not_among after x y (f ∷ front) back row zero gapless above ascend at is =
    let same : f.0 ≡ row.0 = ap (λ (r : Row). r.0) (some_once f row at) in
    let first : f.0 ≡ after + 1 = gapless.0 in
    absurd (omega arith)
not_among after x y (f ∷ front) back row (suc i) gapless above ascend at is =
    not_among (after + 1) x y front back row i gapless.1 (omega arith) ascend at is

-- no receipt is stored for an interval that the rows pass over
none_passed : (held : Records) (after y : ℕ) (front back : List Row) → between held after LAST_INTERVAL ≡ front ++ back → AreGapless after front → after + length front + 1 ≡ y → y ≤ LAST_INTERVAL
    → Ascend y LAST_INTERVAL back → (r : ReceiptRecord) → IsReceiptAt held y r → ⊥
none_passed held after y front back parts gapless next high ascend r at =
    let all = between-AreAllBetween held after LAST_INTERVAL in
    let place = all.are_all y at.0 (omega arith) high at.1 in
    not_among after LAST_INTERVAL y front back (y, at.0) place.0 gapless (omega arith) ascend (ap (λ rows. slice_get rows place.0) (sym parts) ∙ place.1) refl

-- ---- where they end
last_or_not : (y : ℕ) → y ≤ LAST_INTERVAL → (LAST_INTERVAL ≤ y) ⊎ (y + 1 ≤ LAST_INTERVAL)
last_or_not y high = elim (cases_lt y LAST_INTERVAL) [ inl less ↦ inr (omega arith) | inr most ↦ inl most ]

held_middle : (held : Records) (front back : List Row) (row : Row) → AreHeld held (front ++ row ∷ back) → get held row.0 ≡ Some row.1
held_middle held [] back row there = there 0 row refl
held_middle held (x ∷ front) back row there = held_middle held front back row (λ i later at. there (suc i) later at)

end_none : (held : Records) (own n after y : ℕ) (m : State) (front : List Row) → between held after LAST_INTERVAL ≡ front ++ [] → AreGapless after front → after + length front ≡ y → y ≤ LAST_INTERVAL → IsEnd held own n m y
end_none held own n after y m front parts gapless next high =
    elim (last_or_not y high) [
      | inl last ↦ inl last
      | inr below ↦ inr (inl (none_passed held after (y + 1) front [] parts gapless (ap (λ i. i + 1) next) below below))
    ]

end_unfit : (held : Records) (own n y : ℕ) (m : State) (row : Row) → get held row.0 ≡ Some row.1 → row.0 ≡ y + 1 → IsUnfit own n m row.0 row.1 → IsEnd held own n m y
end_unfit held own n y m row there is (inl none) =
    inr (inl (λ r at.
    let same : at.0 ≡ row.1 = some_once at.0 row.1 (sym at.1 ∙ ap (get held) (sym is) ∙ there) in
    none r (subst (SpellsReceipt r) same at.2) (at.3 ∙ sym is)))
end_unfit held own n y m row there is (inr found) =
    inr (inr (found.0, (row.1, ap (get held) (sym is) ∙ there, found.1, found.2 ∙ is), found.3))

end_at : (held : Records) (own n after y : ℕ) (m : State) (front back : List Row) → between held after LAST_INTERVAL ≡ front ++ back → AreHeld held (front ++ back) → AreGapless after front
    → after + length front ≡ y → Ascend y LAST_INTERVAL back → EndsRows own n m y back → IsEnd held own n m y
end_at held own n after y m front [] parts there gapless next ascend ends = end_none held own n after y m front parts gapless next ascend
end_at held own n after y m front (row ∷ back) parts there gapless next ascend (inl other) =
    let above : y < row.0 = ascend.0 in
    let most : row.0 ≤ LAST_INTERVAL = ascend_within row.0 LAST_INTERVAL back ascend.1 in
    let past : Ascend (y + 1) LAST_INTERVAL (row ∷ back) = ascend_past y LAST_INTERVAL row back other ascend in
    inr (inl (none_passed held after (y + 1) front (row ∷ back) parts gapless (ap (λ i. i + 1) next) (omega arith) past))
end_at held own n after y m front (row ∷ back) parts there gapless next ascend (inr unfit) =
    end_unfit held own n y m row (held_middle held front back row there) unfit.0 unfit.1

-- all that was found behind an interval: the receipts in front fit, and what is behind them ends them
pub followed_of : (held : Records) (own n begin k y : ℕ) (m : State) (found : Found) (rs : List ReceiptRecord) → rows_of found ≡ between held begin LAST_INTERVAL → begin ≤ LAST_INTERVAL → k ≤ length found
    → AreGapless begin (rows_of (take k found)) → SpellRows (rows_of (take k found)) rs → FitAlone own n m rs → y ≡ begin + k → EndsRows own n (behind_receipts own n m rs) y (rows_of (drop k found))
    → IsFollowed held own n begin m rs
followed_of held own n begin k y m found rs is low within gapless spelled fit at ends =
    let front : List Row = rows_of (take k found) in
    let back : List Row = rows_of (drop k found) in
    let parts : between held begin LAST_INTERVAL ≡ front ++ back = sym is ∙ rows_parted found k in
    let all = between-AreAllBetween held begin LAST_INTERVAL in
    let there : AreHeld held (front ++ back) = λ i row here. all.are_held i row (ap (λ rows. slice_get rows i) parts ∙ here) in
    let ascend : Ascend begin LAST_INTERVAL (front ++ back) = subst (Ascend begin LAST_INTERVAL) (rows_parted found k) (found_ascend held begin LAST_INTERVAL (rows_of found) is low) in
    let long : length front ≡ k = taken_long found k within in
    let many : length rs ≡ length front = rows_long front rs spelled in
    let next : begin + length front ≡ y = omega (arith, long, at) in
    let last : y ≡ begin + length rs = omega (arith, long, at, many) in
    let behind : Ascend y LAST_INTERVAL back = subst (λ i. Ascend i LAST_INTERVAL back) next (ascend_behind begin LAST_INTERVAL front back gapless ascend) in
    record {
      stored = stored_front held begin front back rs there gapless spelled;
      fit = fit;
      all = subst (IsEnd held own n (behind_receipts own n m rs)) last (end_at held own n begin y (behind_receipts own n m rs) front back parts there gapless next behind ends);
    }

pub received_many : (found : Found) (k : ℕ) (rs : List ReceiptRecord) → k ≤ length found → SpellRows (rows_of (take k found)) rs → length rs ≡ k
received_many found k rs within spelled = rows_long (rows_of (take k found)) rs spelled ∙ taken_long found k within
