use Rattle.std.proofs.Common.{rules, ◌≡◌, subst}
use Rattle.std.specs.Prelude.{All}
use Rattle.om_check.specs.steps.Walks.{IsExcluded}
use Rattle.om_check.proofs.Excluding.{one_of}
use Rattle.om_check.proofs.walk.Walk.is_excluded.Goals as goal

pub returns-then-is_of : goal.returns-then-is_of
returns-then-is_of c holds =
    let is : c.self.inside.choices.items ≡ c.args.self.now = search rules in
    subst (λ walk. IsExcluded walk (record { from = c.args.from; to = c.args.to })) is
    (one_of c.self.inside.choices.items c.deref-other-items.result.now c.loop-other.other-index c.other-item.result (record { from = c.args.from; to = c.args.to })
    (search rules) (subst (All (IsExcluded c.self.inside.choices.items)) (search rules) c.self.invariant) c.other-item.is (search rules))
