use Rattle.std.proofs.Common.{refl, rules}
use Rattle.om_following.proofs.FollowLemmas.{told_next, told_none}
use Rattle.om_following.proofs.following.tell_below.Goals as goal

pub loop-init : goal.loop-init
loop-init g c = record {
  at = search rules;
  copied = refl;
  told = told_none g.F.Follower.Tells c.args.pid c.args.lane.now c.args.follower.now;
}

pub loop-preserved : goal.loop-preserved
loop-preserved g c = record {
  at = search rules;
  copied = c.loop.invariant.copied;
  told = told_next g.F.Follower.Tells c.args.pid c.args.lane.now c.args.follower.now c.loop.lane c.loop.follower _ c.tell.new.self c.in-Some.output c.loop.invariant.told c.in-Some.ensures.items
      (c.tell.ensures.told (search rules));
}
