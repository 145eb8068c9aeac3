use Rattle.std.proofs.Common.{◌≡◌, None, ap, sym, subst, ◌∙◌}
use Rattle.om_debug.specs.Stops.{DebugState, IsWithin, watch_here}
use Rattle.om_debug.proofs.Backwards.{breaks_stop, none_stop, over_breaks, over_on}
use Rattle.om_debug.proofs.Quiet.{within_of}
use Rattle.om_debug.proofs.debugger.Debugger.back_over.Goals as goal

pub returns-then-breaks-clause-over : goal.returns-then-breaks-clause-over
returns-then-breaks-clause-over c =
    let old : DebugState = c.args.self.now in
    let at = c.position-at in
    let within : IsWithin old.timeline = subst (λ (d : DebugState). IsWithin d.timeline) c.self.view_is
    (within_of c.self.inside.timeline at.result.event at.result.turns at.ensures.event at.ensures.turns at.ensures.within at.ensures.few) in
    let none : watch_here old ≡ None = sym c.watch_here-watch.ensures ∙ c.in-None.is in
    over_breaks old c.step_over.new.self c.args.last at.result
    (at.ensures.event ∙ ap (λ (d : DebugState). d.timeline.event) c.self.view_is) (at.ensures.turns ∙ ap (λ (d : DebugState). d.timeline.turns) c.self.view_is)
    within.played within.few (breaks_stop old (sym c.breaks_here-breaks.ensures ∙ c.if-breaks.true)) none c.in_ok-step_over.ensures.behind

pub returns-clause-over : goal.returns-clause-over
returns-clause-over c =
    let old : DebugState = c.args.self.now in
    let none : watch_here old ≡ None = sym c.watch_here-watch.ensures ∙ c.in-None.is in
    over_on old c.step_over.new.self c.args.last (none_stop old (sym c.breaks_here-breaks.ensures ∙ c.if-breaks.false) none) c.in_ok-step_over.ensures.behind
