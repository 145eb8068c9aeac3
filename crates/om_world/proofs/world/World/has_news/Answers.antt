use Rattle.std.proofs.Common.{◌<◌, subst, sym}
use Rattle.om_world.specs.steps.Members.{health_of}
use Rattle.om_world.proofs.Seats.{here}
use Rattle.om_world.proofs.world.World.has_news.Goals as goal

pub index-member-requires : goal.index-member-requires
index-member-requires g c = subst (λ n. c.args.p < n) (sym c.self.inside.members.ok.0) (here g.S.Stable.content (health_of g.S.Stable.is_clean g.S.Stable.failed) g.S.Stable.IsSound _ _ _ _ _ _ c.args.p _ c.self.invariant c.self.view_is c.requires)
