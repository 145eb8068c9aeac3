use Rattle.std.proofs.Common.{Some, length, refl, rules, subst, sym}
use Rattle.std.proofs.lemmas.Option.{slice_get_read}
use Rattle.std.specs.Prelude.{◌≡◌, slice_get}
use Rattle.om_following.proofs.FollowLemmas.{copied_where, have_none, told_where}
use Rattle.om_following.specs.steps.Lanes.{HasTold}
use Rattle.om_following.proofs.following.tell_release.Goals as goal

pub returns-then-p-len-clause-told : goal.returns-then-p-len-clause-told
returns-then-p-len-clause-told g c = λ yes. have_none g.F.Follower.Tells c.args.lanes.now.items c.args.follower.now

pub returns-clause-copied : goal.returns-clause-copied
returns-clause-copied g c =
    let lanes = c.args.lanes.now.items in
    let p = c.index-p.result in
    let old = c.index_mut.result.now in
    let new = c.tell_below.new.lane in
    let at : slice_get lanes p ≡ Some old = slice_get_read lanes (length lanes) p old refl (search rules) c.index_mut.ensures.value in
    copied_where lanes p old new at c.tell_below.ensures.copied

pub returns-clause-told : goal.returns-clause-told
returns-clause-told g c = λ yes.
    let lanes = c.args.lanes.now.items in
    let p = c.index-p.result in
    let old = c.index_mut.result.now in
    let new = c.tell_below.new.lane in
    let at : slice_get lanes p ≡ Some old = slice_get_read lanes (length lanes) p old refl (search rules) c.index_mut.ensures.value in
    told_where g.F.Follower.Tells lanes p old new c.args.follower.now c.tell_below.new.follower at
    (subst (λ k. HasTold g.F.Follower.Tells k old c.args.follower.now new c.tell_below.new.follower) (sym c.index-p.ensures.place) (c.tell_below.ensures.told yes))
