use Rattle.std.proofs.Common.{◌≡◌, ◌+◌}
use Rattle.std.specs.VecDeque.{deque_len}
use Rattle.om_following.specs.steps.Lanes.{HasTold}
use Rattle.om_following.proofs.following.tell_below.Given as goal

abbrev pub invariant-loop : goal.invariant-loop
invariant-loop g l = record {
  at : l.counter + deque_len l.lane.fresh ≡ l.lane.copied;
  copied : l.lane.copied ≡ l.fn.lane.copied;
  told : HasTold g.F.Follower.Tells l.pid l.fn.lane l.fn.follower l.lane l.follower;
}
