use Rattle.std.proofs.Common.{rules, subst}
use Rattle.om_following.proofs.FollowLemmas.{empty_next}
use Rattle.om_following.specs.Following.{AreEmpty}
use Rattle.om_following.proofs.following.empty_lanes.Goals as goal

pub loop-preserved : goal.loop-preserved
loop-preserved c = record {
  many = search rules;
  room = search rules;
  empty = subst AreEmpty (search rules) (empty_next c.loop.lanes.items c.empty_lane.result c.loop.invariant.empty c.empty_lane.ensures);
}
