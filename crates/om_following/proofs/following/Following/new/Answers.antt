use Rattle.std.proofs.Common.{rules}
use Rattle.om_following.proofs.FollowLemmas.{stays_behind}
use Rattle.om_following.proofs.following.Following.new.Goals as goal

pub invariant_of-following : goal.invariant_of-following
invariant_of-following g c = record { many = search rules; few = search rules; behind = stays_behind _ c.meet-front.result.0 c.meet-front.ensures.last }
