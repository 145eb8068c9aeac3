use Rattle.std.proofs.Common.{◌≡◌, map}
use Rattle.std.specs.Prelude.{vec_len}
use Rattle.om_following.specs.steps.Lanes.{HaveTold}
use Rattle.om_following.proofs.following.tell_in_order.Given as goal

abbrev pub invariant-loop-release : goal.invariant-loop-release
invariant-loop-release g l = record {
  many : vec_len l.lanes ≡ vec_len l.fn.lanes;
  copied : map (λ lane. lane.copied) l.lanes.items ≡ map (λ lane. lane.copied) l.fn.lanes.items;
  told : HaveTold g.F.Follower.Tells l.fn.lanes.items l.fn.follower l.lanes.items l.follower;
}
