use Rattle.std.proofs.Common.{◌≡◌, ℕ, ◌+◌, ◌<◌, ◌≤◌, ◌⊎◌, inl, inr, refl, sym, ◌∙◌, subst, arith, List, [], ◌∷◌, length, slice_index, zero, suc}
use Rattle.std.proofs.lemmas.Bool.{cases_order}
use Rattle.std.specs.FinSet as set
use Rattle.om_interval.specs.Vectors.{IsBelow}
use Rattle.om_recover.specs.Rows.{Rows}
use Rattle.om_recover.specs.Recoverable.{IsStable, IsRecoverable, IsGreatest, maximum_of}
use Rattle.om_recover.specs.steps.Fresh.{AreMoreOf, HasNoneFresh}
use Rattle.om_recover.specs.declared.row.Row.{Row}
use Rattle.om_recover.proofs.RowsLemmas.{kept, of_inserted}
use Rattle.om_recover.proofs.StableLemmas.{stable_by_records}
use Rattle.om_interval.proofs.VectorLemmas.{below_through}
use Rattle.om_recover.proofs.LawLemmas.{recoverable_maximum, one_below, other_below}
use Rattle.om_recover.proofs.ClimbLemmas.{at_most_or_more}

-- rows with one more of a process
pub more_by_one : (rows : Rows) (row : Row) → AreMoreOf rows (set.insert rows row) row.pid
more_by_one rows row = record {
  kept = λ other there. kept rows row other there;
  others = λ other there apart. elim (of_inserted rows row other there) [ inl is ↦ absurd (apart (subst (λ (r : Row). r.pid ≡ row.pid) (sym is) refl)) | inr old ↦ old ];
}

pub more_by_none : (rows : Rows) (p : ℕ) → AreMoreOf rows rows p
more_by_none rows p = record { kept = λ other there. there; others = λ other there _. there }

pub more_then : (before mid after : Rows) (p : ℕ) → AreMoreOf before mid p → AreMoreOf mid after p → AreMoreOf before after p
more_then before mid after p first second = record {
  kept = λ row there. second.kept row (first.kept row there);
  others = λ row there apart. first.others row (second.others row there apart) apart;
}

-- what was stable is so with more rows
pub stable_with : (before after : Rows) (p q y : ℕ) → AreMoreOf before after p → IsStable before q y → IsStable after q y
stable_with before after p q y more stable =
    stable_by_records before after q y (λ kind z _ has. record { row = has.row; there = more.kept has.row has.there; kind_is = has.kind_is; pid_is = has.pid_is; interval_is = has.interval_is }) stable

-- and of another process nothing else is
pub stable_without : (before after : Rows) (p q y : ℕ) → AreMoreOf before after p → (q ≡ p → ⊥) → IsStable after q y → IsStable before q y
stable_without before after p q y more apart stable =
    stable_by_records after before q y
    (λ kind z _ has. record { row = has.row; there = more.others has.row has.there (λ is. apart (sym has.pid_is ∙ is)); kind_is = has.kind_is; pid_is = has.pid_is; interval_is = has.interval_is }) stable

pub apart_where : (q p : ℕ) → (q < p) ⊎ (p < q) → q ≡ p → ⊥
apart_where q p apart is = elim apart [ inl less ↦ omega (arith, less, is) | inr more ↦ omega (arith, more, is) ]

-- a recoverable state is within the greatest one before, or has the process at or above an interval below which nothing became stable above that state
pub within_or_started : (n : ℕ) (before after : Rows) (p : ℕ) (state : List ℕ) (x : ℕ) → IsGreatest n before state → IsRecoverable n after state → AreMoreOf before after p
    → slice_index state p < x → ((y : ℕ) → IsStable after p y → slice_index state p < y → y < x → IsStable before p y)
    → (other : List ℕ) → IsRecoverable n after other → IsBelow other state ⊎ (x ≤ slice_index other p)
within_or_started n before after p state x greatest still more above old other of_other = elim (at_most_or_more x (slice_index other p)) [
  | inl started ↦ inr started
  | inr short ↦
      let same : length state ≡ length other = still.places ∙ sym of_other.places in
      let both : List ℕ = maximum_of state other in
      let of_both : IsRecoverable n after both = recoverable_maximum n after state other still of_other in
      let above_state : IsBelow state both = one_below state other same in
      let short_both : slice_index both p < x = maximum_short state other p x same above short in
      let earlier : IsRecoverable n before both = record {
        places = of_both.places;
        stable = λ q in_cluster. elim (cases_order q p) [
          | inl here ↦ subst (λ r. IsStable before r (slice_index both r)) (sym here)
              (old_here both (omega (arith, in_cluster, here)) (above_state.each p (omega (arith, in_cluster, here, still.places))) short_both (of_both.stable p (omega (arith, in_cluster, here))))
          | inr apart ↦ stable_without before after p q (slice_index both q) more (apart_where q p apart) (of_both.stable q in_cluster)
        ];
        closed = λ row there at_state. of_both.closed row (more.kept row there) at_state;
      } in
      inl (below_through other both state (other_below state other same) (greatest.above_all both earlier))
]
  where
    maximum_short : (one other : List ℕ) (p x : ℕ) → length one ≡ length other → slice_index one p < x → slice_index other p < x → slice_index (maximum_of one other) p < x
    maximum_short [] other p x same low high = low
    maximum_short (y ∷ one) [] p x same low high = absurd (omega (arith, same))
    maximum_short (y ∷ one) (z ∷ other) zero x same low high = omega (arith, low, high)
    maximum_short (y ∷ one) (z ∷ other) (suc p) x same low high = maximum_short one other p x (omega (arith, same)) low high

    old_here : (both : List ℕ) → p < n → slice_index state p ≤ slice_index both p → slice_index both p < x → IsStable after p (slice_index both p) → IsStable before p (slice_index both p)
    old_here both process low short stable = elim (cases_order (slice_index state p) (slice_index both p)) [
      | inl at ↦ subst (IsStable before p) at (greatest.recoverable.stable p process)
      | inr apart ↦ elim apart [
        | inl rises ↦ old (slice_index both p) stable rises short
        | inr falls ↦ absurd (omega (arith, low, falls))
      ]
    ]

-- where no interval of the process becomes stable above the greatest state, that state stays the greatest
pub greatest_with : (n : ℕ) (before after : Rows) (p : ℕ) (state : List ℕ) → IsGreatest n before state → IsRecoverable n after state → AreMoreOf before after p
    → HasNoneFresh before after p (slice_index state p) → IsGreatest n after state
greatest_with n before after p state greatest still more none = record {
  recoverable = still;
  above_all = λ other of_other.
      elim (within_or_started n before after p state (slice_index state p + slice_index other p + 1) greatest still more (omega arith) (λ y stable above _. none y stable above) other of_other) [
        | inl within ↦ within
        | inr past ↦ absurd (omega (arith, past))
      ];
}
