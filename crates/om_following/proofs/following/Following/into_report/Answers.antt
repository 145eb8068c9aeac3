use Rattle.om_following.proofs.FollowLemmas.{told_partly}
use Rattle.om_following.proofs.following.Following.into_report.Goals as goal

pub returns-in-Some-clause-partly : goal.returns-in-Some-clause-partly
returns-in-Some-clause-partly g c = λ start was wanted.
    let k = g.K.Naming in
    told_partly g.F.Follower.Tells k.OverClean k.programs k.cell.n c.args.self.front.vec start c.args.self.lanes.items c.args.self.follower (was (λ same. wanted cc))
