use Rattle.std.proofs.Common.{◌≡◌, ◌∙◌, Some, ap, arith, length, map, refl, rules, subst, sym}
use Rattle.std.proofs.lemmas.Option.{slice_get_read}
use Rattle.std.specs.Prelude.{slice_get}
use Rattle.om_manager.specs.Outputs.{held_of}
use Rattle.om_manager.specs.State.{released_by}
use Rattle.om_following.proofs.FollowLemmas.{lanes_more, lanes_none, not_reached}
use Rattle.om_following.specs.steps.Lanes.{IsMore}
use Rattle.om_following.proofs.following.add_all.Goals as goal

pub loop-p-init : goal.loop-p-init
loop-p-init c = record { many = refl; more = lanes_none (released_by c.args.manager.now) c.args.lanes.now.items; later = λ q le. refl }

pub returns-in_err-add_new-clause-more : goal.returns-in_err-add_new-clause-more
returns-in_err-add_new-clause-more c =
    let m = c.args.manager.now in
    let first = c.args.lanes.now.items in
    let lanes = c.loop-p.lanes.items in
    let p = c.loop-p.p in
    let old = c.index_mut.result.now in
    let new = c.add_new.new.lane in
    let at : slice_get lanes p ≡ Some old = slice_get_read lanes (length lanes) p old refl (search rules) c.index_mut.ensures.value in
    let begun : slice_get first p ≡ Some old = sym (c.loop-p.invariant.later p (omega arith)) ∙ at in
    let held : map held_of c.released.result.now ≡ released_by m p = c.released.ensures.outputs ∙ ap (released_by m) c.at.ensures in
    lanes_more (released_by m) first lanes p old new at begun (subst (λ hs. IsMore hs old new) held c.add_new.ensures.more) c.loop-p.invariant.more

pub loop-p-preserved : goal.loop-p-preserved
loop-p-preserved c =
    let m = c.args.manager.now in
    let first = c.args.lanes.now.items in
    let lanes = c.loop-p.lanes.items in
    let p = c.loop-p.p in
    let old = c.index_mut.result.now in
    let new = c.add_new.new.lane in
    let at : slice_get lanes p ≡ Some old = slice_get_read lanes (length lanes) p old refl (search rules) c.index_mut.ensures.value in
    let begun : slice_get first p ≡ Some old = sym (c.loop-p.invariant.later p (omega arith)) ∙ at in
    let held : map held_of c.released.result.now ≡ released_by m p = c.released.ensures.outputs ∙ ap (released_by m) c.at.ensures in
    record {
      many = search rules;
      more = lanes_more (released_by m) first lanes p old new at begun (subst (λ hs. IsMore hs old new) held c.add_new.ensures.more) c.loop-p.invariant.more;
      later = not_reached first lanes p new c.loop-p.invariant.later;
    }
