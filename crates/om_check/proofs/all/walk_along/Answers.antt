use Rattle.std.proofs.Common.{length, map, subst, sym, ap, ◌∙◌}
use Rattle.std.proofs.lemmas.List.{length-map}
use Rattle.om_process.specs.Images.{program_of}
use Rattle.om_check.specs.Whole.{IsUnderWay}
use Rattle.om_check.specs.steps.Walks.{IsWalked}
use Rattle.om_check.proofs.all.walk_along.Goals as goal

pub walk_on-requires-clause-all : goal.walk_on-requires-clause-all
walk_on-requires-clause-all c =
    sym (ap length c.in_ok-trail.ensures.way.these ∙ length-map c.args.images.now program_of)

pub walk_on-requires-clause-way : goal.walk_on-requires-clause-way
walk_on-requires-clause-way c =
    subst (λ ps. IsUnderWay ps c.in_ok-trail.trail.stage.world) (sym c.in_ok-trail.ensures.way.these) c.in_ok-trail.ensures.way

pub returns-in-Ok-clause-walked : goal.returns-in-Ok-clause-walked
returns-in-Ok-clause-walked c =
    let walked = subst (λ ps. IsWalked ps c.args.choices.now c.walk_on.new.walk c.walk_on.new.trail.stage.world) c.in_ok-trail.ensures.way.these c.in-Ok.ensures.walked in
    subst (λ cs. IsWalked (map program_of c.args.images.now) c.args.choices.now cs c.walk_on.new.trail.stage.world) (sym c.into_choices.ensures) walked

pub returns-in-Ok-clause-led : goal.returns-in-Ok-clause-led
returns-in-Ok-clause-led c =
    (c.in-Ok.ensures.run (map program_of c.args.images.now) c.in_ok-trail.ensures.way).1 c.in_ok-trail.ensures.led
