use Rattle.std.proofs.Common.{◌<◌, subst, sym}
use Rattle.om_world.specs.steps.Members.{health_of}
use Rattle.om_world.proofs.Lists.{lent_at}
use Rattle.om_world.proofs.Rising.{after_taken, was_taken}
use Rattle.om_world.proofs.Seats.{here}
use Rattle.om_world.proofs.world.World.take_down.Goals as goal

pub index_mut-member-requires : goal.index_mut-member-requires
index_mut-member-requires g c = subst (λ n. c.args.p < n) (sym c.self.inside.members.ok.0) (here g.S.Stable.content (health_of g.S.Stable.is_clean g.S.Stable.failed) g.S.Stable.IsSound _ _ _ _ _ _ c.args.p _ c.self.invariant c.self.view_is c.requires.there)

pub invariant_of-self : goal.invariant_of-self
invariant_of-self g c =
    let at = lent_at _ c.args.p _ (here g.S.Stable.content (health_of g.S.Stable.is_clean g.S.Stable.failed) g.S.Stable.IsSound _ _ _ _ _ _ c.args.p _ c.self.invariant c.self.view_is c.requires.there) c.index_mut-member.ensures.value in
    after_taken g.S.Stable.content (health_of g.S.Stable.is_clean g.S.Stable.failed) g.S.Stable.IsSound _ _ _ _ _ _ c.args.p _ at _ _ c.self.invariant c.self.view_is c.fail.ensures c.requires.undeclared

pub returns : goal.returns
returns g c =
    let at = lent_at _ c.args.p _ (here g.S.Stable.content (health_of g.S.Stable.is_clean g.S.Stable.failed) g.S.Stable.IsSound _ _ _ _ _ _ c.args.p _ c.self.invariant c.self.view_is c.requires.there) c.index_mut-member.ensures.value in
    was_taken g.S.Stable.content (health_of g.S.Stable.is_clean g.S.Stable.failed) g.S.Stable.IsSound _ _ _ _ _ _ c.args.p _ at _ _ c.self.invariant c.self.view_is c.fail.ensures
