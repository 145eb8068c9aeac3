use Rattle.std.proofs.Common.{map, subst, sym, ap, ◌∙◌}
use Rattle.om_process.specs.Images.{program_of}
use Rattle.om_world.specs.Started.{IsStarted}
use Rattle.om_check.specs.Whole.{IsUnderWay}
use Rattle.om_check.proofs.Shown.{begins_so}
use Rattle.om_check.proofs.trail.at_start.Goals as goal

pub returns-clause-way : goal.returns-clause-way
returns-clause-way c = subst (IsUnderWay (map program_of c.args.images.now)) (sym c.in_ok-new.ensures) c.in_ok-world.ensures.way

pub returns-clause-led : goal.returns-clause-led
returns-clause-led c =
    let begun = subst (IsUnderWay (map program_of c.args.images.now)) (sym c.in_ok-new.ensures) c.in_ok-world.ensures.way in
    begins_so _ _ _ c.new-2.ensures.items (subst (IsStarted (map program_of c.args.images.now)) (sym c.in_ok-new.ensures) c.in_ok-world.ensures.start) begun

pub returns-clause-live : goal.returns-clause-live
returns-clause-live c = ap (λ w. w.live) c.in_ok-new.ensures ∙ c.in_ok-world.ensures.start.live
