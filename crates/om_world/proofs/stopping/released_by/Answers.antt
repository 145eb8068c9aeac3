use Rattle.std.proofs.Common.{◌+◌, [], ◌∷◌, sym, ap, ◌∙◌, subst, length, length-append}
use Rattle.om_manager.specs.State.{released_by}
use Rattle.om_world.specs.steps.Stopping.{AreReleasedBy}
use Rattle.om_world.proofs.StoppingLemmas.{released_more}
use Rattle.om_world.proofs.stopping.released_by.Goals as goal

pub loop-p-preserved : goal.loop-p-preserved
loop-p-preserved c =
    let was = c.loop-p.invariant in
    let items = c.in_ok-push.ensures.items in
    let e = c.in_ok-released_of.ensures in
    let m = c.args.manager.now in
    let released = c.loop-p.released.items in
    let outputs = c.in_ok-released_of.field-0 in (
      ap length items ∙ length-append released (outputs ∷ []) ∙ ap (λ k. k + 1) was.0,
      subst (AreReleasedBy m) (sym items) (released_more m released outputs was.1 (e.held ∙ ap (λ q. released_by m q) (c.at.ensures ∙ sym was.0)) e.numbered),
    )
