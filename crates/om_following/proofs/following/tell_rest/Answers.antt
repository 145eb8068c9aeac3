use Rattle.std.proofs.Common.{◌≤◌, ◌∙◌, Some, ap, length, refl, rules, arith, subst, sym}
use Rattle.std.proofs.lemmas.Option.{same_Some, slice_get_read, slice_get_within}
use Rattle.std.specs.Prelude.{◌≡◌, slice_get}
use Rattle.om_following.proofs.FollowLemmas.{copied_where, ends_next, have_none, have_then, told_where}
use Rattle.om_following.specs.declared.followed_outputs.FollowedOutputs.{FollowedOutputs}
use Rattle.om_following.specs.steps.Lanes.{HasTold}
use Rattle.om_following.proofs.following.tell_rest.Goals as goal

pub loop-p-init : goal.loop-p-init
loop-p-init g c = record {
  many = refl;
  copied = refl;
  told = have_none g.F.Follower.Tells c.args.lanes.now.items c.args.follower.now;
  ends = λ q lane lt at. absurd (omega arith);
}

pub returns-then-not-tell_below-clause-copied : goal.returns-then-not-tell_below-clause-copied
returns-then-not-tell_below-clause-copied g c =
    let lanes = c.loop-p.lanes.items in
    let p = c.loop-p.p in
    let old = c.index_mut.result.now in
    let new = c.tell_below.new.lane in
    let at : slice_get lanes p ≡ Some old = slice_get_read lanes (length lanes) p old refl (search rules) c.index_mut.ensures.value in
    copied_where lanes p old new at c.tell_below.ensures.copied ∙ c.loop-p.invariant.copied

pub loop-p-preserved : goal.loop-p-preserved
loop-p-preserved g c =
    let lanes = c.loop-p.lanes.items in
    let p = c.loop-p.p in
    let old = c.index_mut.result.now in
    let new = c.tell_below.new.lane in
    let at : slice_get lanes p ≡ Some old = slice_get_read lanes (length lanes) p old refl (search rules) c.index_mut.ensures.value in
    let read = c.index.result.now in
    let there : slice_get lanes p ≡ Some read = slice_get_read lanes (length lanes) p read refl (search rules) c.index.ensures in
    let all : old.copied ≤ read.copied = (let same = ap (λ (l : FollowedOutputs). l.copied) (same_Some old read (sym at ∙ there)) in omega arith) in
    let has = subst (λ k. HasTold g.F.Follower.Tells k old c.loop-p.follower new c.tell_below.new.follower) c.at.ensures (c.tell_below.ensures.told (search rules)) in
    record {
      many = search rules;
      copied = copied_where lanes p old new at c.tell_below.ensures.copied ∙ c.loop-p.invariant.copied;
      told = have_then g.F.Follower.Tells c.args.lanes.now.items lanes _ c.args.follower.now c.loop-p.follower c.tell_below.new.follower c.loop-p.invariant.told
          (told_where g.F.Follower.Tells lanes p old new c.loop-p.follower c.tell_below.new.follower at has);
      ends = ends_next lanes p old new at c.loop-p.invariant.ends (c.tell_below.ensures.all (search rules) all);
    }

pub returns-clause-all : goal.returns-clause-all
returns-clause-all g c = λ yes p lane at.
    let within = slice_get_within c.loop-p.lanes.items p lane at in
    c.loop-p.invariant.ends p lane (omega arith) at
