use Rattle.std.proofs.Common.{◌≡◌, ◌<◌, ◌≤◌, ◌⊎◌, Some, inl, inr, sym, subst, arith, eqb-true}
use Rattle.std.proofs.lemmas.Bool.{eqb-false}
use Rattle.om_recover.specs.steps.Nearest.{at}
use Rattle.om_recover.proofs.PlaceLemmas.{not_above, at_most_of, none_is_none}
use Rattle.om_recover.proofs.rows.nearest.nearest_from.Goals as goal

pub returns-in-None : goal.returns-in-None
returns-in-None g c = λ y there within.
    none_is_none _ ((c.range.ensures.in_range tt).5 c.in-None.ensures.steps.0 (c.args.pid, y) (not_above c.args.pid c.args.from y within, tt)) there

pub returns-then-eq : goal.returns-then-eq
returns-then-eq g c =
    let place = c.in-Some.place.now in
    let found = rw c.in-Some.ensures.steps at (c.range.ensures.in_range tt).1 in
    let least = rw c.in-Some.ensures.steps at (c.range.ensures.in_range tt).2 in
    let own : place.0 ≡ c.args.pid = eqb-true _ _ (sym c.if-eq.ensures) in
    let above : (c.args.pid < place.0) ⊎ ((c.args.pid ≡ place.0) × (c.args.from ≤ place.1)) = at_most_of (c.args.pid, c.args.from) place found.0.0 in
    record {
      there = subst (λ p. at c.args.entries.now.entries p place.1 ≡ Some c.in-Some.value.now) own found.1;
      within = omega (arith, own, above);
      nearest = λ y there within. elim (at_most_of place (c.args.pid, y) (least (c.args.pid, y) (not_above c.args.pid c.args.from y within, tt) there)) [
        | inl other ↦ absurd (omega (arith, own, other))
        | inr same ↦ same.1
      ];
    }

pub returns-else-eq : goal.returns-else-eq
returns-else-eq g c =
    let place = c.in-Some.place.now in
    let found = rw c.in-Some.ensures.steps at (c.range.ensures.in_range tt).1 in
    let least = rw c.in-Some.ensures.steps at (c.range.ensures.in_range tt).2 in
    let above : (c.args.pid < place.0) ⊎ ((c.args.pid ≡ place.0) × (c.args.from ≤ place.1)) = at_most_of (c.args.pid, c.args.from) place found.0.0 in
    λ y there within. elim (at_most_of place (c.args.pid, y) (least (c.args.pid, y) (not_above c.args.pid c.args.from y within, tt) there)) [
      | inl other ↦ absurd (omega (arith, above, other))
      | inr same ↦ eqb-false _ _ (sym c.if-eq.ensures) same.0
    ]
