use Rattle.std.proofs.Common.{◌<◌, ◌∙◌, Some, ap, subst, sym}
use Rattle.om_world.specs.steps.Members.{health_of}
use Rattle.om_world.proofs.Lists.{lent_at}
use Rattle.om_world.proofs.Seats.{here, place_at}
use Rattle.om_world.proofs.world.World.place.Goals as goal

pub index-member-requires : goal.index-member-requires
index-member-requires g c = subst (λ n. c.args.p < n) (sym c.self.inside.members.ok.0) (here g.S.Stable.content (health_of g.S.Stable.is_clean g.S.Stable.failed) g.S.Stable.IsSound _ _ _ _ _ _ c.args.p _ c.self.invariant c.self.view_is c.requires)

pub returns : goal.returns
returns g c = place_at g.S.Stable.content (health_of g.S.Stable.is_clean g.S.Stable.failed) g.S.Stable.IsSound _ _ _ _ _ _ c.args.p _ (lent_at _ c.args.p _ (here g.S.Stable.content (health_of g.S.Stable.is_clean g.S.Stable.failed) g.S.Stable.IsSound _ _ _ _ _ _ c.args.p _ c.self.invariant c.self.view_is c.requires) c.index-member.ensures) _ c.self.view_is ∙ ap Some (sym c.of.ensures)
