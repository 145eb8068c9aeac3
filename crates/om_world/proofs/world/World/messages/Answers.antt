use Rattle.std.proofs.Common.{◌<◌, subst, sym}
use Rattle.om_world.specs.steps.Members.{health_of}
use Rattle.om_world.proofs.Lists.{lent_at}
use Rattle.om_world.proofs.Seats.{core_at, is_up, up_core, up_here}
use Rattle.om_world.proofs.world.World.messages.Goals as goal

pub index-member-requires : goal.index-member-requires
index-member-requires g c = subst (λ n. c.args.p < n) (sym c.self.inside.members.ok.0) (up_here g.S.Stable.content (health_of g.S.Stable.is_clean g.S.Stable.failed) g.S.Stable.IsSound _ _ _ _ _ _ c.args.p _ c.self.view_is c.requires)

pub returns-in-Some : goal.returns-in-Some
returns-in-Some g c =
    let at = lent_at _ c.args.p _ (up_here g.S.Stable.content (health_of g.S.Stable.is_clean g.S.Stable.failed) g.S.Stable.IsSound _ _ _ _ _ _ c.args.p _ c.self.view_is c.requires) c.index-member.ensures in
    (c.in-Some.core.now, core_at g.S.Stable.content (health_of g.S.Stable.is_clean g.S.Stable.failed) g.S.Stable.IsSound _ _ _ _ _ _ c.args.p _ at _ c.in-Some.core.now c.self.view_is c.in-Some.ensures.some, c.messages_kept.ensures)

pub returns-in-None : goal.returns-in-None
returns-in-None g c =
    let at = lent_at _ c.args.p _ (up_here g.S.Stable.content (health_of g.S.Stable.is_clean g.S.Stable.failed) g.S.Stable.IsSound _ _ _ _ _ _ c.args.p _ c.self.view_is c.requires) c.index-member.ensures in
    absurd (up_core _ (is_up g.S.Stable.content (health_of g.S.Stable.is_clean g.S.Stable.failed) g.S.Stable.IsSound _ _ _ _ _ _ c.args.p _ at _ c.self.view_is c.requires) c.in-None.ensures.none)
