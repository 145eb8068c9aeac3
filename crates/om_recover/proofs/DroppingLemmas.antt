use Rattle.std.proofs.Common.{◌≡◌, ℕ, ◌+◌, ◌<◌, ◌≤◌, inl, inr, refl, sym, ◌∙◌, subst, arith, true, false, IsSome, Option, Some, None, List, cond, length, slice_index, nat_le}
use Rattle.std.proofs.lemmas.Bool.{cases_eq, cases_lt, leb-true, leb-false}
use Rattle.std.proofs.lemmas.List.{get_or_past}
use Rattle.om_recover.specs.steps.Nearest.{at, AreSorted, AreFrom, ArePruned}

-- where no entry is, there is nothing
pub none_of : {X : Type 0} (entry : Option X) → (IsSome entry → ⊥) → entry ≡ None
none_of None nothing = refl
none_of (Some value) nothing = absurd (nothing refl)

-- entries of which some of a process below a bound may have been dropped
pub record AreLeft {X : Type 0} (old new : List ((ℕ × ℕ) × X)) (p from : ℕ) : Type 0 where
  pub sorted : AreSorted new
  pub kept : (q y : ℕ) → (q ≡ p → y < from → ⊥) → at new q y ≡ at old q y

-- entries of which those of the first processes below their bounds are dropped
pub record ArePrunedBelow {X : Type 0} (old new : List ((ℕ × ℕ) × X)) (bounds : List ℕ) (count : ℕ) : Type 0 where
  pub sorted : AreSorted new
  pub dropped : (q y : ℕ) → q < count → y < slice_index bounds q → at new q y ≡ None
  pub kept : (q y : ℕ) → (q < count → y < slice_index bounds q → ⊥) → at new q y ≡ at old q y

pub pruned_start : {X : Type 0} (entries : List ((ℕ × ℕ) × X)) (bounds : List ℕ) → AreSorted entries → ArePrunedBelow entries entries bounds 0
pruned_start entries bounds sorted = record { sorted = sorted; dropped = λ q y below _. absurd (omega (arith, below)); kept = λ q y _. refl }

pub pruned_step : {X : Type 0} (old mid new : List ((ℕ × ℕ) × X)) (bounds : List ℕ) (count : ℕ) → AreFrom mid new count (slice_index bounds count)
    → ArePrunedBelow old mid bounds count → ArePrunedBelow old new bounds (count + 1)
pruned_step old mid new bounds count from so_far = record {
  sorted = from.sorted;
  dropped = λ q y within low. elim (cases_eq q count) [
    | inl same ↦ subst (λ q. at new q y ≡ None) (sym same) (from.dropped y (subst (λ q. y < slice_index bounds q) same low))
    | inr apart ↦ from.kept q y (λ same _. apart same) ∙ so_far.dropped q y (omega (arith, within, apart)) low
  ];
  kept = λ q y beside.
      from.kept q y (λ same low. beside (omega (arith, same)) (subst (λ q. y < slice_index bounds q) (sym same) low))
      ∙ so_far.kept q y (λ within low. beside (omega (arith, within)) low);
}

pub pruned_ends : {X : Type 0} (old new : List ((ℕ × ℕ) × X)) (bounds : List ℕ) (count : ℕ) → length bounds ≤ count → ArePrunedBelow old new bounds count → ArePruned old new bounds
pruned_ends {X} old new bounds count all so_far = record {
  sorted = so_far.sorted;
  part = λ p x. elim (nat_le (slice_index bounds p) x) as (λ b. nat_le (slice_index bounds p) x ≡ b → at new p x ≡ cond b (at old p x) None) [
    | true ↦ λ passes. let far = leb-true (slice_index bounds p) x passes in so_far.kept p x (λ _ low. omega (arith, far, low))
    | false ↦ λ fails. let low = leb-false (slice_index bounds p) x fails in elim (cases_lt p count) [
      | inl within ↦ so_far.dropped p x within (omega (arith, low))
      | inr past ↦ absurd (let zero_there = get_or_past bounds p 0 (omega (arith, all, past)) in omega (arith, low, zero_there))
    ]
  ] refl;
}
