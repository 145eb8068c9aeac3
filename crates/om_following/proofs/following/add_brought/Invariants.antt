use Rattle.std.proofs.Common.{◌≡◌, ◌<◌, ◌≤◌, ℕ, Some, length}
use Rattle.std.specs.Prelude.{Vec, slice_get, vec_len}
use Rattle.std.specs.declared.alloc.Global.{Global}
use Rattle.om_manager.specs.declared.output_log.Output.{Output}
use Rattle.om_following.specs.declared.followed_outputs.FollowedOutputs.{FollowedOutputs}
use Rattle.om_following.specs.steps.Lanes.{AreMore, held_in}
use Rattle.om_following.proofs.following.add_brought.Given as goal

abbrev pub invariant-loop-p : goal.invariant-loop-p
invariant-loop-p l = record {
  many : vec_len l.lanes ≡ vec_len l.fn.lanes;
  more : AreMore (held_in l.brought) l.fn.lanes.items l.lanes.items;
  later : (q : ℕ) → l.p ≤ q → slice_get l.lanes.items q ≡ slice_get l.fn.lanes.items q;
  all : (q : ℕ) (low : Vec Output Global) (lane : FollowedOutputs) → q < l.p → slice_get l.brought q ≡ Some low → slice_get l.lanes.items q ≡ Some lane
      → length low.items ≤ lane.copied;
}
