use Rattle.std.proofs.Common.{◌≢◌, Some, subst, sym}
use Rattle.om_following.specs.declared.follower.FollowFault.TheVariants.{Unwanted}
use Rattle.om_following.specs.declared.following.Following.{Following}
use Rattle.om_following.specs.Following.{IsTold}
use Rattle.om_following.proofs.following.Following.follow.Goals as goal
use Rattle.om_following.proofs.following.Following.follow.Goals.{in-None, in-Some+then-is_over}

pub loop-preserved : goal.loop-preserved
loop-preserved g c = λ start was. c.look-following.ensures.followed start (c.loop.invariant start was)

pub returns : goal.returns
returns g c = λ start was.
    let Is : Following g.row.K.Denot g.row.F.Denot g.K.Naming g.F.Follower → Type 0 = λ f. f.fault ≢ Some Unwanted → IsTold g.F.Follower.Tells g.K.Naming.OverClean g.K.Naming.programs g.K.Naming.cell.n f.front.vec start f.lanes.items f.follower in
    elim c.match-next.branch [
      | in-None w ↦ subst Is (sym w.following-is) (c.loop.invariant start was)
      | in-Some+then-is_over w ↦ subst Is (sym w.following-is) (w.look-following.ensures.followed start (c.loop.invariant start was))
    ]
