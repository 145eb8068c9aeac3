use Rattle.std.proofs.Common.{◌∙◌, subst, sym}
use Rattle.om_recover.specs.steps.Bases.{IsNewest}
use Rattle.om_recover.proofs.RunLemmas.{either_way}
use Rattle.om_recover.proofs.BaseLemmas.{newest_at, no_newest_at, beside_newest, none_above}
use Rattle.om_recover.proofs.rows.bases.base_at.Goals as goal

pub returns-in_default : goal.returns-in_default
returns-in_default c =
    let none = rw c.deref.ensures.value at c.in_default.ensures in
    let is = no_newest_at c.args.bases.now c.args.pid c.args.x (λ base own. none c.args.x base own) in
    either_way c.other_at.result (λ no_other. is ∙ no_other) (λ base there. is ∙ there) c.other_at.ensures

pub returns-then-newest-x : goal.returns-then-newest-x
returns-then-newest-x c =
    let own = rw c.deref.ensures.value at c.in-Some.ensures in
    none_above c.args.bases.now _ _ _ _ c.requires own c.if-newest-x.true

pub returns-then-newest-x-2 : goal.returns-then-newest-x-2
returns-then-newest-x-2 c =
    let own = rw c.deref.ensures.value at c.in-Some.ensures in
    newest_at c.args.bases.now _ _ _ (subst (λ x. IsNewest c.args.bases.now.newest.items c.args.pid x c.in-Some.newest.now.base) c.if-newest-x-2.true own)

pub returns : goal.returns
returns c =
    let own = rw c.deref.ensures.value at c.in-Some.ensures in
    let is = beside_newest c.args.bases.now c.args.pid c.in-Some.newest.now.interval c.args.x c.in-Some.newest.now.base own (λ same. c.if-newest-x-2.false (sym same)) in
    either_way c.other_at-2.result (λ no_other. is ∙ no_other) (λ base there. is ∙ there) c.other_at-2.ensures
