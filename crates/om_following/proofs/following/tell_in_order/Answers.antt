use Rattle.std.proofs.Common.{◌∙◌, refl, rules}
use Rattle.om_following.proofs.FollowLemmas.{have_none, have_then}
use Rattle.om_following.proofs.following.tell_in_order.Goals as goal

pub loop-release-init : goal.loop-release-init
loop-release-init g c = record { many = refl; copied = refl; told = have_none g.F.Follower.Tells c.args.lanes.now.items c.args.follower.now }

pub returns-then-not-tell_release-clause-copied : goal.returns-then-not-tell_release-clause-copied
returns-then-not-tell_release-clause-copied g c = c.tell_release.ensures.copied ∙ c.loop-release.invariant.copied

pub loop-release-preserved : goal.loop-release-preserved
loop-release-preserved g c = record {
  many = search rules;
  copied = c.tell_release.ensures.copied ∙ c.loop-release.invariant.copied;
  told = have_then g.F.Follower.Tells c.args.lanes.now.items c.loop-release.lanes.items c.tell_release.new.lanes.items c.args.follower.now c.loop-release.follower c.tell_release.new.follower
      c.loop-release.invariant.told (c.tell_release.ensures.told (search rules));
}
