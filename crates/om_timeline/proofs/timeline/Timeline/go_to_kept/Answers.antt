use Rattle.std.proofs.Common.{◌≡◌, ℕ, ◌-◌, ◌<◌, arith, get_or, sym, ap, subst, ◌∙◌}
use Rattle.std.proofs.lemmas.Option.{get_or_from_slice_get}
use Rattle.om_timeline.specs.declared.stage.Stage.{Stage}
use Rattle.om_timeline.specs.Timeline.{IsUpTo, TimelineState, at}
use Rattle.om_timeline.proofs.timeline.Timeline.go_to_kept.Goals as goal

pub returns-clause-gone : goal.returns-clause-gone
returns-clause-gone c =
    let stage : Stage = c.index-stage.result.now in
    (stage.at.event, stage.at.turns, ap (λ (t : TimelineState). at t stage.at.event stage.at.turns) c.self.view_is)

pub returns-clause-order : goal.returns-clause-order
returns-clause-order c =
    let stage : Stage = c.index-stage.result.now in
    let some : 0 < c.up_to-place.result = omega arith in
    let place : ℕ = c.up_to-place.result - 1 in
    let last = c.up_to-place.ensures.last some in
    let same : stage ≡ last.0 =
    c.index-stage.ensures ∙ ap (λ xs. get_or xs place stage) (sym c.deref.ensures.value)
    ∙ get_or_from_slice_get c.deref.result.now place last.0 stage last.1 in
    subst (λ (s : Stage). IsUpTo s.at.event s.at.turns c.args.to.event c.args.to.turns) (sym same) last.2
