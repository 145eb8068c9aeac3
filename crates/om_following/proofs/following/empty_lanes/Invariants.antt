use Rattle.std.proofs.Common.{◌≡◌, ◌≤◌}
use Rattle.std.specs.Prelude.{vec_capacity, vec_len}
use Rattle.om_following.specs.Following.{AreEmpty}
use Rattle.om_following.proofs.following.empty_lanes.Given as goal

abbrev pub invariant-loop : goal.invariant-loop
invariant-loop l = record {
  many : vec_len l.lanes ≡ l.counter;
  room : l.n ≤ vec_capacity l.lanes;
  empty : AreEmpty l.lanes.items;
}
