use Rattle.std.proofs.Common.{◌≡◌, ℕ, ◌<◌, ◌≤◌, inl, inr, sym, ◌∙◌, ap, subst, arith, List, length, slice_index, slice_set, length-set}
use Rattle.om_interval.specs.Vectors.{IsBelow}
use Rattle.om_recover.specs.Rows.{Rows, IsLawful}
use Rattle.om_recover.specs.Recoverable.{IsStable}
use Rattle.om_recover.specs.Climb.{IsLeastStable}
use Rattle.om_recover.specs.steps.Climbing.{IsNeededWithin, leads, IsForced, IsClimbing, IsPassing}
use Rattle.om_recover.proofs.ClimbLemmas.{at_most_or_more, set_place, within_higher, reached_within, row_of, IsVecAt}

-- before the first look a climb has passed where it began
pub passing_start : (n : ℕ) (rows : Rows) (state : List ℕ) (p x : ℕ) (reached looked : List ℕ) → IsClimbing n rows state p x reached looked → IsPassing n rows state p x reached reached
passing_start n rows state p x reached looked climbing = record {
  places = climbing.reached_places;
  started = climbing.started;
  within = λ q _. omega arith;
  stable = λ q in_cluster _. climbing.stable q in_cluster;
  needed = climbing.needed;
  demanded = λ q _ less. absurd (omega (arith, less));
}

-- after a look that forced others it has passed the interval that was read
pub passing_step : (n : ℕ) (rows : Rows) (state : List ℕ) (p x q y : ℕ) (reached looked passed vec higher : List ℕ) → IsLawful n rows → p < n → IsClimbing n rows state p x reached looked
    → q < n → y ≡ slice_index reached q → slice_index looked q < y → IsVecAt rows q y vec → IsForced rows reached vec higher → IsPassing n rows state p x reached passed
    → IsPassing n rows state p x higher (slice_set passed q y)
passing_step n rows state p x q y reached looked passed vec higher lawful process climbing in_cluster at behind is forced passing =
    let has = (row_of n rows state p x q reached looked climbing in_cluster).1 in
    let row_vec : has.row.vec ≡ vec = is has.row has.there has.pid_is (has.interval_is ∙ sym at) in
    let inside : q < length passed = omega (arith, in_cluster, passing.places) in
    let state_looked : (k : ℕ) → k < n → slice_index state k ≤ slice_index looked k =
    λ k k_in. climbing.from_state.each k (omega (arith, k_in, climbing.looked_places, climbing.from_state.same_places)) in
    let looked_reached : (k : ℕ) → k < n → slice_index looked k ≤ slice_index reached k =
    λ k k_in. climbing.behind.each k (omega (arith, k_in, climbing.looked_places)) in
    let rises : IsBelow reached higher = reached_within rows reached vec higher forced in
    let reached_higher : (k : ℕ) → k < n → slice_index reached k ≤ slice_index higher k = λ k k_in. rises.each k (omega (arith, k_in, climbing.reached_places)) in
    let next : List ℕ = slice_set passed q y in
    let low : slice_index passed q ≤ y = omega (arith, at, passing.within q in_cluster) in
    let more : (k : ℕ) → slice_index passed k ≤ slice_index next k = λ k. elim (set_place passed q y k inside) [
      | inl here ↦ omega (arith, here.1, low, ap (slice_index passed) here.0)
      | inr there ↦ omega (arith, there.1)
    ] in
    let here_is : slice_index next q ≡ y = elim (set_place passed q y q inside) [ inl here ↦ here.1 | inr there ↦ absurd (there.0 (omega arith)) ] in
    let above : slice_index state q < y = omega (arith, behind, state_looked q in_cluster) in
    let needed_here : IsNeededWithin rows state next p x q y = elim (at_most_or_more y (slice_index passed q)) [
      | inl passed_it ↦
          let same : slice_index passed q ≡ y = omega (arith, passed_it, low) in
          within_higher rows state passed next p x q y more (subst (IsNeededWithin rows state passed p x q) same (passing.needed q in_cluster (omega (arith, same, above))))
      | inr beyond ↦
          let demand = passing.demanded q in_cluster (omega (arith, at, beyond)) in
          leads demand.row q y (within_higher rows state passed next p x demand.row.pid demand.row.interval more demand.needed) demand.there demand.beyond
          (subst (IsLeastStable rows q (slice_index demand.row.vec q)) (sym at) demand.least) (omega (arith, here_is))
    ] in
    record {
      places = length-set passed q y ∙ passing.places;
      started = omega (arith, passing.started, more p);
      within = λ k k_in. elim (set_place passed q y k inside) [
        | inl here ↦ omega (arith, here.1, at, ap (slice_index reached) here.0, reached_higher k k_in)
        | inr there ↦ omega (arith, there.1, passing.within k k_in, reached_higher k k_in)
      ];
      stable = λ k k_in higher_than. elim (set_place passed q y k inside) [
        | inl here ↦ subst (IsStable rows k) (sym (here.1 ∙ at ∙ sym (ap (slice_index reached) here.0))) (climbing.stable k k_in)
        | inr there ↦ subst (IsStable rows k) (sym there.1) (passing.stable k k_in (omega (arith, there.1, higher_than)))
      ];
      needed = λ k k_in higher_than. elim (set_place passed q y k inside) [
        | inl here ↦ subst (IsNeededWithin rows state next p x k) (sym here.1) (subst (λ j. IsNeededWithin rows state next p x j y) (sym here.0) needed_here)
        | inr there ↦ subst (IsNeededWithin rows state next p x k) (sym there.1)
            (within_higher rows state passed next p x k (slice_index passed k) more (passing.needed k k_in (omega (arith, there.1, higher_than))))
      ];
      demanded = λ k k_in less.
          let k_reached : k < length reached = omega (arith, k_in, climbing.reached_places) in
          elim (at_most_or_more (slice_index vec k) (slice_index reached k)) [
            | inl at_most ↦
                let stays : slice_index higher k ≡ slice_index reached k = forced.kept k k_reached at_most in
                elim (set_place passed q y k inside) [
                  | inl here ↦ absurd (omega (arith, less, stays, here.1, at, ap (slice_index reached) here.0))
                  | inr there ↦
                      let demand = passing.demanded k k_in (omega (arith, less, stays, there.1)) in
                      record {
                        row = demand.row;
                        there = demand.there;
                        needed = within_higher rows state passed next p x demand.row.pid demand.row.interval more demand.needed;
                        beyond = demand.beyond;
                        least = subst (IsLeastStable rows k (slice_index demand.row.vec k)) (sym stays) demand.least;
                      }
                ]
            | inr beyond ↦
                let same_place : slice_index has.row.vec k ≡ slice_index vec k = ap (λ v. slice_index v k) row_vec in
                record {
                  row = has.row;
                  there = has.there;
                  needed = subst (λ r. IsNeededWithin rows state next p x r has.row.interval) (sym has.pid_is)
                      (subst (IsNeededWithin rows state next p x q) (at ∙ sym has.interval_is) needed_here);
                  beyond = omega (arith, beyond, same_place, state_looked k k_in, looked_reached k k_in);
                  least = subst (λ v. IsLeastStable rows k v (slice_index higher k)) (sym same_place) (forced.raised k k_reached beyond);
                }
          ];
    }
