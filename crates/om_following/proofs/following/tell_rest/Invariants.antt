use Rattle.std.proofs.Common.{◌≡◌, ℕ, ◌<◌, [], Some, map}
use Rattle.std.specs.Prelude.{slice_get, vec_len}
use Rattle.om_following.specs.declared.followed_outputs.FollowedOutputs.{FollowedOutputs}
use Rattle.om_following.specs.steps.Lanes.{HaveTold}
use Rattle.om_following.proofs.following.tell_rest.Given as goal

abbrev pub invariant-loop-p : goal.invariant-loop-p
invariant-loop-p g l = record {
  many : vec_len l.lanes ≡ vec_len l.fn.lanes;
  copied : map (λ lane. lane.copied) l.lanes.items ≡ map (λ lane. lane.copied) l.fn.lanes.items;
  told : HaveTold g.F.Follower.Tells l.fn.lanes.items l.fn.follower l.lanes.items l.follower;
  ends : (q : ℕ) (lane : FollowedOutputs) → q < l.p → slice_get l.lanes.items q ≡ Some lane → lane.fresh.items ≡ [];
}
