use Rattle.std.proofs.Common.{◌∙◌, ap}
use Rattle.std.specs.Prelude.{unwrap_or}
use Rattle.om_following.proofs.FollowLemmas.{told_partly}
use Rattle.om_following.specs.declared.follower.FollowFault.TheVariants.{Run}
use Rattle.om_following.proofs.following.Following.into_fault.Goals as goal

pub returns-clause-partly : goal.returns-clause-partly
returns-clause-partly g c = λ start was wanted.
    let k = g.K.Naming in
    told_partly g.F.Follower.Tells k.OverClean k.programs k.cell.n c.args.self.front.vec start c.args.self.lanes.items c.args.self.follower
    (was (λ same. wanted (c.unwrap_or.ensures ∙ ap (λ fault. unwrap_or fault (Run c.args.fault)) same)))
