use Rattle.std.proofs.Common.{◌≡◌, ◌<◌, ◌≤◌, ◌⊎◌, Some, inl, inr, sym, subst, arith, eqb-true}
use Rattle.std.proofs.lemmas.Bool.{eqb-false}
use Rattle.om_recover.specs.steps.Nearest.{at}
use Rattle.om_recover.proofs.PlaceLemmas.{not_above, at_most_of, at_least_of, none_is_none}
use Rattle.om_recover.proofs.rows.nearest.nearest_to.Goals as goal

pub returns-in-None : goal.returns-in-None
returns-in-None g c = λ y there within.
    none_is_none _ ((c.range.ensures.in_range tt).5 c.in-None.ensures.steps.0 (c.args.pid, y) (tt, not_above c.args.pid y c.args.to within)) there

pub returns-then-eq : goal.returns-then-eq
returns-then-eq g c =
    let place = c.in-Some.place.now in
    let found = (c.range.ensures.in_range tt).3 (place, c.in-Some.value.now) _ c.in-Some.ensures.steps in
    let own : place.0 ≡ c.args.pid = eqb-true _ _ (sym c.if-eq.ensures) in
    let below : (place.0 < c.args.pid) ⊎ ((place.0 ≡ c.args.pid) × (place.1 ≤ c.args.to)) = at_most_of place (c.args.pid, c.args.to) found.0.1 in
    record {
      there = subst (λ p. at c.args.entries.now.entries p place.1 ≡ Some c.in-Some.value.now) own found.1;
      within = omega (arith, own, below);
      nearest = λ y there within. elim (at_least_of place (c.args.pid, y) ((c.range.ensures.in_range tt).4 (place, c.in-Some.value.now) _ c.in-Some.ensures.steps (c.args.pid, y) (tt, not_above c.args.pid y c.args.to within) there)) [
        | inl other ↦ absurd (omega (arith, own, other))
        | inr same ↦ same.1
      ];
    }

pub returns-else-eq : goal.returns-else-eq
returns-else-eq g c =
    let place = c.in-Some.place.now in
    let found = (c.range.ensures.in_range tt).3 (place, c.in-Some.value.now) _ c.in-Some.ensures.steps in
    let below : (place.0 < c.args.pid) ⊎ ((place.0 ≡ c.args.pid) × (place.1 ≤ c.args.to)) = at_most_of place (c.args.pid, c.args.to) found.0.1 in
    λ y there within. elim (at_least_of place (c.args.pid, y) ((c.range.ensures.in_range tt).4 (place, c.in-Some.value.now) _ c.in-Some.ensures.steps (c.args.pid, y) (tt, not_above c.args.pid y c.args.to within) there)) [
      | inl other ↦ absurd (omega (arith, below, other))
      | inr same ↦ eqb-false _ _ (sym c.if-eq.ensures) same.0
    ]
