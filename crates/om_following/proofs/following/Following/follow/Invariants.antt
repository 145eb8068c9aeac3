use Rattle.om_following.specs.Following.{IsFollowed}
use Rattle.om_following.proofs.following.Following.follow.Given as goal

abbrev pub invariant-loop : goal.invariant-loop
invariant-loop g l =
    let k = g.K.Naming in
    (start : g.row.F.Denot) → IsFollowed g.F.Follower.Tells k.OverClean k.programs k.cell.n l.fn.self.front.vec start l.fn.self.lanes.items l.fn.self.fault l.fn.self.follower
    → IsFollowed g.F.Follower.Tells k.OverClean k.programs k.cell.n l.following.front.vec start l.following.lanes.items l.following.fault l.following.follower
