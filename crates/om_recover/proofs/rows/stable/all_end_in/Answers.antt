use Rattle.std.proofs.Common.{◌≡◌, ◌∙◌, ap, arith, subst, refl, below_more, List, Option, Some, length, slice_get, slice_index}
use Rattle.std.proofs.lemmas.Option.{slice_get_read}
use Rattle.om_recover.specs.steps.Bases.{IsNewest}
use Rattle.om_recover.specs.steps.Climbing.{EndsBy}
use Rattle.om_recover.specs.steps.Held.{held}
use Rattle.om_recover.specs.declared.rows.trees.Newest.{Newest}
use Rattle.om_recover.proofs.ReachLemmas.{ends_with_newest}
use Rattle.om_recover.proofs.rows.stable.all_end_in.Goals as goal

pub loop-p-preserved : goal.loop-p-preserved
loop-p-preserved c =
    let slots = c.as_slice-newest.result.now in
    let read : slice_get slots c.loop-p.p ≡ Some c.index-newest-p.result =
    slice_get_read slots (length slots) c.loop-p.p c.index-newest-p.result refl (omega (arith, c.loop-p-test.true, c.if-newest-numbers.false)) c.index-newest-p.is in
    let found = c.if-not-reaches_to.ensures refl in
    let own : IsNewest c.args.trees.now.bases.newest.items c.loop-p.p found.0.interval found.0.base =
    subst (λ (items : List (Option Newest)). slice_get items c.loop-p.p ≡ Some (Some found.0)) c.as_slice-newest.ensures.value (read ∙ ap Some found.1) in
    let place : slice_index c.as_slice-numbers.result.now c.loop-p.p ≡ slice_index c.args.state.now c.loop-p.p = ap (λ v. slice_index v c.loop-p.p) c.as_slice-numbers.ensures.numbers in
    below_more (λ q. EndsBy (held c.args.trees.now) q (slice_index c.args.state.now q)) c.loop-p.p c.loop-p.invariant
    (λ z stable. omega (arith, ends_with_newest c.args.trees.now _ _ _ c.requires own z stable, found.2, place))

pub returns : goal.returns
returns c = λ _ p within. c.loop-p.invariant p (omega (arith, within, c.loop-p-test.false, ap length c.as_slice-numbers.ensures.numbers))
