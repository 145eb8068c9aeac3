use Rattle.std.proofs.Common.{◌∷◌, [], ◌++◌, subst, sym, ap, ◌∙◌}
use Rattle.om_check.specs.steps.Walks.{HasTaken}
use Rattle.om_check.proofs.Walking.{declined_is, declined_on, taken_is, taken_on}
use Rattle.om_check.proofs.all.make.Goals as goal

pub returns-then-choice-clause-walk : goal.returns-then-choice-clause-walk
returns-then-choice-clause-walk c =
    c.in_ok-take.ensures.walk ∙ ap (λ x. c.args.walk.now ++ x ∷ []) (sym (taken_is c.args.choice.now c.if-choice.true))

pub returns-then-choice-clause-taken : goal.returns-then-choice-clause-taken
returns-then-choice-clause-taken c =
    subst (HasTaken c.take.new.trail.stage.world) (sym c.in_ok-take.ensures.walk)
    (taken_on c.args.trail.now.stage.world.programs c.args.trail.now.stage.world c.take.new.trail.stage.world c.args.walk.now c.args.choice.now.delivery.from
    c.args.choice.now.delivery.to c.requires.way c.in_ok-take.ensures.taken c.requires.taken)

pub returns-clause-walk : goal.returns-clause-walk
returns-clause-walk c =
    c.in_ok-decline.ensures.declined ∙ ap (λ x. c.args.walk.now ++ x ∷ []) (sym (declined_is c.args.choice.now c.if-choice.false))

pub returns-clause-taken : goal.returns-clause-taken
returns-clause-taken c =
    subst (HasTaken c.args.trail.now.stage.world) (sym c.in_ok-decline.ensures.declined)
    (declined_on c.args.trail.now.stage.world c.args.walk.now (record { from = c.args.choice.now.delivery.from; to = c.args.choice.now.delivery.to }) c.requires.taken)
