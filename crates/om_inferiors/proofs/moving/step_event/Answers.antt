use Rattle.std.proofs.Common.{Option, subst}
use Rattle.std.specs.Prelude.{IfSome}
use Rattle.om_debug.specs.declared.stop.Stop.{Stop}
use Rattle.om_inferiors.specs.Moving.{StandsAt}
use Rattle.om_inferiors.proofs.Each.{stands_kept}
use Rattle.om_inferiors.proofs.moving.step_event.Goals as goal

pub returns-in_ok-follow_moved-in-Some-2-clause-stands : goal.returns-in_ok-follow_moved-in-Some-2-clause-stands
returns-in_ok-follow_moved-in-Some-2-clause-stands c =
    stands_kept c.run_at.new.all c.follow_moved.new.all c.in-Some.place c.in-Some-2.stop c.follow_moved.ensures.first
    (subst (λ (o : Option Stop). IfSome o (StandsAt c.run_at.new.all c.in-Some.place)) c.in-Some-2.is c.in_ok-stop.ensures.stands)
