use Rattle.std.proofs.Common.{◌≡◌, ℕ, ◌<◌, ◌≤◌, ◌⊎◌, inl, inr, refl, sym, ◌∙◌, ap, subst, arith, true, false, true≢false, Less, Equal, Greater, IsSome, is_some, Option, Some, None, List}
use Rattle.std.specs.Ordering.{nat_cmp, ordering_then, is_gt, is_lt}
use Rattle.std.specs.Cmp.{IsTotalOrder, Equal-is, nat_cmp_total, nat_cmp_is, tied_itself}
use Rattle.std.specs.BTreeMap.{is_at}
use Rattle.std.proofs.lemmas.Cmp.{then_total, on_total}
use Rattle.std.proofs.lemmas.Map.Lookups.{CmpEqualImpliesEq, exact_pairs, exact_unsigned}
use Rattle.std.proofs.lemmas.Map.Keys.{le_from_not_gt, ge_from_not_lt}
use Rattle.std.proofs.lemmas.Bool.{cases_order}
use Rattle.om_recover.specs.steps.Nearest.{place_cmp, at, AreSorted, IsNearestTo, IsPut}

-- the order of places is a total one, and tells all places apart
pub places_total : IsTotalOrder place_cmp
places_total = then_total (on_total (λ e. e.0) nat_cmp_total) (on_total (λ e. e.1) nat_cmp_total)

pub exact_places : CmpEqualImpliesEq place_cmp
exact_places = exact_pairs nat_cmp nat_cmp exact_unsigned exact_unsigned

-- places of one process stand as their intervals
pub of_one : (p x y : ℕ) → place_cmp (p, x) (p, y) ≡ nat_cmp x y
of_one p x y = ap (λ o. ordering_then o (nat_cmp x y)) (tied_itself nat_cmp_total p)

pub not_above : (p x y : ℕ) → x ≤ y → is_gt (place_cmp (p, x) (p, y)) ≡ false
not_above p x y at_most = elim (cases_order x y) [
  | inl is ↦ ap is_gt (of_one p x y ∙ sym (nat_cmp_is x y Equal is))
  | inr apart ↦ elim apart [
    | inl less ↦ ap is_gt (of_one p x y ∙ sym (nat_cmp_is x y Less less))
    | inr more ↦ absurd (omega (arith, at_most, more))
  ]
]

-- a place that is not above another is of a lower process, or of the same one at no higher interval
pub at_most_of : (a b : ℕ × ℕ) → is_gt (place_cmp a b) ≡ false → (a.0 < b.0) ⊎ ((a.0 ≡ b.0) × (a.1 ≤ b.1))
at_most_of a b test = elim (cases_order a.0 b.0) [
  | inl is ↦ inr (is, le_from_not_gt a.1 b.1 (sym (ap (λ o. is_gt (ordering_then o (nat_cmp a.1 b.1))) (sym (nat_cmp_is a.0 b.0 Equal is))) ∙ test))
  | inr apart ↦ elim apart [
    | inl less ↦ inl less
    | inr more ↦ absurd (true≢false (ap (λ o. is_gt (ordering_then o (nat_cmp a.1 b.1))) (nat_cmp_is a.0 b.0 Greater more) ∙ test))
  ]
]

pub at_least_of : (a b : ℕ × ℕ) → is_lt (place_cmp a b) ≡ false → (b.0 < a.0) ⊎ ((a.0 ≡ b.0) × (b.1 ≤ a.1))
at_least_of a b test = elim (cases_order a.0 b.0) [
  | inl is ↦ inr (is, ge_from_not_lt a.1 b.1 (sym (ap (λ o. is_lt (ordering_then o (nat_cmp a.1 b.1))) (sym (nat_cmp_is a.0 b.0 Equal is))) ∙ test))
  | inr apart ↦ elim apart [
    | inl less ↦ absurd (true≢false (ap (λ o. is_lt (ordering_then o (nat_cmp a.1 b.1))) (nat_cmp_is a.0 b.0 Less less) ∙ test))
    | inr more ↦ inl more
  ]
]

-- nothing at a key is no entry
pub none_is_none : {X : Type 0} (entry : Option X) → entry ≡ None → IsSome entry → ⊥
none_is_none None is some = absurd (true≢false (sym some))
none_is_none (Some value) is some = absurd (cc)

-- places apart are told apart
pub apart_places : (p x q y : ℕ) → (q ≡ p → y ≡ x → ⊥) → is_at (place_cmp (p, x)) (q, y) ≡ false
apart_places p x q y apart = elim (is_at (place_cmp (p, x)) (q, y)) as (λ b. is_at (place_cmp (p, x)) (q, y) ≡ b → b ≡ false) [
  | true ↦ λ same. let is = exact_places (p, x) (q, y) ((Equal-is (place_cmp (p, x) (q, y))).0 same) in absurd (apart (ap (λ (e : ℕ × ℕ). e.0) (sym is)) (ap (λ (e : ℕ × ℕ). e.1) (sym is)))
  | false ↦ λ _. refl
] refl

-- what an insertion leaves
pub put_of : {X : Type 0} (old new : List ((ℕ × ℕ) × X)) (p x : ℕ) (value : X) → AreSorted new → at new p x ≡ Some value
    → ((q : ℕ × ℕ) → is_at (place_cmp (p, x)) q ≡ false → at new q.0 q.1 ≡ at old q.0 q.1) → IsPut old new p x value
put_of old new p x value sorted here others = record { sorted = sorted; here = here; others = λ q y apart. others (q, y) (apart_places p x q y apart) }

-- the nearest entry is one alone
pub one_nearest : {X : Type 0} (entries : List ((ℕ × ℕ) × X)) (p to x y : ℕ) (one other : X) → IsNearestTo entries p to x one → IsNearestTo entries p to y other → one ≡ other
one_nearest entries p to x y one other near also =
    let same : x ≡ y = omega (arith, near.nearest y (ap is_some also.there) also.within, also.nearest x (ap is_some near.there) near.within) in
    let there : at entries p y ≡ Some one = subst (λ x. at entries p x ≡ Some one) same near.there in
    let is = also.there in
    cc
