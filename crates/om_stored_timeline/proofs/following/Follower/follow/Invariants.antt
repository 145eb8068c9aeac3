use Rattle.om_stored_timeline.specs.steps.Walking.{IsAlong, IsAtReceipt}
use Rattle.om_stored_timeline.proofs.following.Follower.follow.Given as goal

abbrev pub invariant-loop-y : goal.invariant-loop-y
invariant-loop-y l = record {
  along : IsAlong l.fn.self l.rows.items l.y-index l.self;
  here : IsAtReceipt l.self;
}
