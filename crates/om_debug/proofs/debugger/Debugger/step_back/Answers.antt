use Rattle.std.proofs.Common.{ap, ◌∙◌, subst}
use Rattle.om_debug.specs.Stops.{DebugState, IsStepBack}
use Rattle.om_debug.proofs.Stepping.{again}
use Rattle.om_debug.proofs.debugger.Debugger.step_back.Goals as goal

pub returns-clause-back : goal.returns-clause-back
returns-clause-back c =
    let behind = c.position-behind in
    subst (λ d. IsStepBack d c.stepped_back.new.self c.in_ok-stop.stop)
    (again c.args.self.now c.stand_at.new.self c.in-Some.before.event c.in-Some.before.turns behind.result.event behind.result.turns c.in_ok-stand_at.ensures.there
    (behind.ensures.event ∙ ap (λ (d : DebugState). d.timeline.event) c.self.view_is)
    (behind.ensures.turns ∙ ap (λ (d : DebugState). d.timeline.turns) c.self.view_is))
    c.in_ok-stop.ensures.back
