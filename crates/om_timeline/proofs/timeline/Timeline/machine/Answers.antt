use Rattle.std.proofs.Common.{subst}
use Rattle.std.specs.Prelude.{IfSome}
use Rattle.om_timeline.specs.Shown.{ShownAt}
use Rattle.om_timeline.specs.Timeline.{TimelineState}
use Rattle.om_timeline.proofs.Placing.{placed_shown}
use Rattle.om_timeline.proofs.timeline.Timeline.machine.Goals as goal

pub returns-clause-shown : goal.returns-clause-shown
returns-clause-shown c =
    subst (λ (t : TimelineState). IfSome t.begun (λ b. ShownAt t.process t.first b t.events t.event t.turns c.self.inside.here.machine)) c.self.view_is
    (placed_shown c.self.inside.tape c.self.inside.here.machine c.self.inside.here.own c.self.inside.here.n c.self.inside.at.event c.self.inside.at.turns c.told_of.ensures c.self.invariant.placed)
