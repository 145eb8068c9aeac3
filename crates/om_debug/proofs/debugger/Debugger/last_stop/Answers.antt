use Rattle.std.proofs.Common.{◌≡◌, true, ap, subst, ◌∙◌}
use Rattle.om_debug.specs.Stops.{DebugState, IsBefore}
use Rattle.om_debug.proofs.Backwards.{stands_then}
use Rattle.om_debug.proofs.debugger.Debugger.last_stop.Goals as goal

pub pieces-preserved : goal.pieces-preserved
pieces-preserved g c =
    let here : DebugState = c.pieces.self in
    let at = c.position in
    let event : at.result.event ≡ here.timeline.event = at.ensures.event ∙ ap (λ (d : DebugState). d.timeline.event) c.self.view_is in
    let turns : at.result.turns ≡ here.timeline.turns = at.ensures.turns ∙ ap (λ (d : DebugState). d.timeline.turns) c.self.view_is in
    let yes : c.is_before.result ≡ true = cc in
    let before : IsBefore here.timeline.event here.timeline.turns c.args.end.event c.args.end.turns =
    subst (λ k. IsBefore here.timeline.event k c.args.end.event c.args.end.turns) turns
    (subst (λ e. IsBefore e at.result.turns c.args.end.event c.args.end.turns) event (c.is_before.ensures.0 yes)) in
    record {
      stands = stands_then c.args.self.now here c.back_over.new.self c.pieces.invariant.stands c.back_over.ensures.stands;
      part = c.in_ok-last.ensures.over c.args.self.now c.args.end.event c.args.end.turns c.pieces.invariant.stands before c.pieces.invariant.part;
      unread = c.is_paused.ensures ∙ c.pieces.invariant.unread;
    }
