use Rattle.std.proofs.Common.{ℕ, ◌<◌, arith, ap}
use Rattle.om_recover.specs.steps.Bases.{IsNewest}
use Rattle.om_recover.specs.declared.rows.trees.Base.{Base}
use Rattle.om_recover.specs.declared.rows.trees.Newest.{Newest}
use Rattle.om_recover.proofs.RunLemmas.{either_way}
use Rattle.om_recover.proofs.BaseLemmas.{none_to_others, to_others, newest_is_nearest, one_newest}
use Rattle.om_recover.proofs.rows.bases.base_to.Goals as goal

pub returns-in_default : goal.returns-in_default
returns-in_default c =
    let none = rw c.deref.ensures.value at c.in_default.ensures in
    either_way c.nearest_to.result (λ no_other. none_to_others c.args.bases.now c.args.pid c.args.to (λ x base own. absurd (none x base own)) no_other)
    (λ found near. to_others c.args.bases.now _ _ _ _ c.requires (λ x base own. absurd (none x base own)) near) c.nearest_to.ensures

pub returns-then-newest-to : goal.returns-then-newest-to
returns-then-newest-to c =
    let own = rw c.deref.ensures.value at c.in-Some.ensures in
    newest_is_nearest c.args.bases.now _ _ _ _ c.requires own c.if-newest-to.true

pub returns : goal.returns
returns c =
    let own = rw c.deref.ensures.value at c.in-Some.ensures in
    let far : (x : ℕ) (base : Base) → IsNewest c.args.bases.now.newest.items c.args.pid x base → c.args.to < x = λ x base also. omega (arith, ap (λ (n : Newest). n.interval) (one_newest c.args.bases.now.newest.items c.args.pid x c.in-Some.newest.now.interval base c.in-Some.newest.now.base also own), c.if-newest-to.false) in
    either_way c.nearest_to-2.result (λ no_other. none_to_others c.args.bases.now c.args.pid c.args.to far no_other)
    (λ found near. to_others c.args.bases.now _ _ _ _ c.requires far near) c.nearest_to-2.ensures
