use Rattle.std.proofs.Common.{◌++◌, ◌∷◌, [], refl, subst, sym, ap, ◌∙◌}
use Rattle.std.specs.Prelude.{All}
use Rattle.om_check.specs.steps.Walks.{IsExcluded, taking}
use Rattle.om_check.proofs.Excluding.{moved_lists}
use Rattle.om_check.proofs.walk.Walk.take.Goals as goal

pub invariant_of-self : goal.invariant_of-self
invariant_of-self c = moved_lists _ _ _ _ c.in_err-try_reserve.ensures.items refl c.self.invariant

pub invariant_of-self-2 : goal.invariant_of-self-2
invariant_of-self-2 c =
    moved_lists (c.self.inside.choices.items ++ taking (record { from = c.args.from; to = c.args.to }) ∷ []) _ _ _
    (c.push_reserved.ensures.items ∙ ap (λ cs. cs ++ taking (record { from = c.args.from; to = c.args.to }) ∷ []) c.in_ok-try_reserve.ensures.items) refl
    (c.in_ok-kept.ensures c.self.inside.choices.items c.args.from
    (subst (All (IsExcluded c.self.inside.choices.items)) (sym c.deref.ensures.value) c.self.invariant))
