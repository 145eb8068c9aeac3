use Rattle.std.proofs.Common.{ℕ, ◌+◌, ◌≤◌, ◌∙◌, ap, subst, MatchOption}
use Rattle.om_recover.specs.Recoverable.{IsStable}
use Rattle.om_recover.specs.Climb.{IsLeastStable}
use Rattle.om_recover.proofs.search.passes.least_above.Goals as goal

pub returns-in-Some : goal.returns-in-Some
returns-in-Some g c =
    subst (λ from. MatchOption c.least_stable.result ((z : ℕ) → IsStable (g.S.Shelf.rows c.args.shelf.now) c.args.pid z → from ≤ z → ⊥) (IsLeastStable (g.S.Shelf.rows c.args.shelf.now) c.args.pid from))
    (c.in-Some.ensures.1 ∙ ap (λ place. place + 1) c.get.ensures) c.least_stable.ensures
