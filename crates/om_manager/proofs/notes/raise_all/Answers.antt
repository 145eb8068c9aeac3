use Rattle.std.proofs.Common.{◌≡◌, ap, sym, ◌∙◌, arith, subst, rules, ◌<◌, length, ◌≤◌, slice_index, slice_set, get_or}
use Rattle.std.proofs.lemmas.List.{length-map}
use Rattle.om_manager.specs.steps.OutputLog.{LogState, log_to}
use Rattle.om_manager.proofs.ManagerLemmas.{may_raise, raised_more}
use Rattle.om_manager.proofs.notes.raise_all.Goals as goal

pub raise-requires : goal.raise-requires
raise-requires c =
    let here : c.loop-p.p < length c.args.state.now = omega arith in
    let place : c.get.result ≡ slice_index c.args.state.now c.loop-p.p = search rules in
    let read : c.index_mut-log.result.now ≡ get_or c.loop-p.logs.items c.loop-p.p c.index_mut-log.result.now = c.index_mut-log.ensures.value in
    subst (λ x. c.index_mut-log.result.now.limit ≤ x) (sym place) (may_raise _ _ _ _ _ c.requires c.loop-p.invariant here read)

pub loop-p-preserved : goal.loop-p-preserved
loop-p-preserved c =
    let here : c.loop-p.p < length c.args.state.now = omega arith in
    let place : c.get.result ≡ slice_index c.args.state.now c.loop-p.p = search rules in
    let many = length-map c.args.logs.now.items (λ (log : LogState). log.limit) in
    let inside : c.loop-p.p < length c.loop-p.logs.items = omega (arith, c.loop-p.invariant.places, c.requires.same_places) in
    raised_more _ _ _ _ _ c.index_mut-log.result.now c.loop-p.invariant inside c.index_mut-log.ensures.value
    (ap (slice_set c.loop-p.logs.items c.loop-p.p) (c.raise.ensures ∙ ap (log_to c.index_mut-log.result.now) place))
