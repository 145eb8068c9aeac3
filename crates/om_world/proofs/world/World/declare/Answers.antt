use Rattle.std.proofs.Common.{◌≡◌, ◌<◌, Err, rules, subst, sym}
use Rattle.om_world.specs.steps.Members.{health_of}
use Rattle.om_world.proofs.Lists.{lent_at}
use Rattle.om_world.proofs.Rising.{after_declared, after_refused, was_declared, was_refused}
use Rattle.om_world.proofs.Seats.{here}
use Rattle.om_world.proofs.Standing.{few, there_at}
use Rattle.om_world.proofs.world.World.declare.Goals as goal

pub at-requires : goal.at-requires
at-requires g c = few _ _ _ _ c.args.p c.self.invariant c.self.view_is (there_at _ _ _ _ c.args.p c.self.invariant c.self.view_is _ c.requires)

pub index_mut-member-requires : goal.index_mut-member-requires
index_mut-member-requires g c = subst (λ n. c.args.p < n) (sym c.self.inside.members.ok.0) (here g.S.Stable.content (health_of g.S.Stable.is_clean g.S.Stable.failed) g.S.Stable.IsSound _ _ _ _ _ _ c.args.p _ c.self.invariant c.self.view_is (there_at _ _ _ _ c.args.p c.self.invariant c.self.view_is _ c.requires))

pub invariant_of-self : goal.invariant_of-self
invariant_of-self g c =
    let at = lent_at _ c.args.p _ (here g.S.Stable.content (health_of g.S.Stable.is_clean g.S.Stable.failed) g.S.Stable.IsSound _ _ _ _ _ _ c.args.p _ c.self.invariant c.self.view_is (there_at _ _ _ _ c.args.p c.self.invariant c.self.view_is _ c.requires)) c.index_mut-member.ensures.value in
    after_refused g.S.Stable.content (health_of g.S.Stable.is_clean g.S.Stable.failed) g.S.Stable.IsSound _ _ _ _ _ _ c.args.p _ at _ _ c.self.invariant c.self.view_is c.at.result c.at.ensures c.declare.new.access c.requires c.in_err-told.field-0.0 c.in_err-told.ensures

pub returns-in_err-told : goal.returns-in_err-told
returns-in_err-told g c =
    let at = lent_at _ c.args.p _ (here g.S.Stable.content (health_of g.S.Stable.is_clean g.S.Stable.failed) g.S.Stable.IsSound _ _ _ _ _ _ c.args.p _ c.self.invariant c.self.view_is (there_at _ _ _ _ c.args.p c.self.invariant c.self.view_is _ c.requires)) c.index_mut-member.ensures.value in
    let is : c.from_residual.result ≡ Err c.in_err-told.field-0.0 = search rules in
    was_refused g.S.Stable.content (health_of g.S.Stable.is_clean g.S.Stable.failed) g.S.Stable.IsSound _ _ _ _ _ _ c.args.p _ at _ _ c.self.invariant c.self.view_is c.at.result c.at.ensures c.declare.new.access c.requires c.in_err-told.field-0.0 c.in_err-told.ensures c.from_residual.result is

pub invariant_of-self-2 : goal.invariant_of-self-2
invariant_of-self-2 g c =
    let at = lent_at _ c.args.p _ (here g.S.Stable.content (health_of g.S.Stable.is_clean g.S.Stable.failed) g.S.Stable.IsSound _ _ _ _ _ _ c.args.p _ c.self.invariant c.self.view_is (there_at _ _ _ _ c.args.p c.self.invariant c.self.view_is _ c.requires)) c.index_mut-member.ensures.value in
    after_declared g.S.Stable.content (health_of g.S.Stable.is_clean g.S.Stable.failed) g.S.Stable.IsSound _ _ _ _ _ _ c.args.p _ at _ _ c.self.invariant c.self.view_is c.at.result c.at.ensures c.declare.new.access c.requires c.in_ok-told.told c.in_ok-told.ensures c.cut_where_finished.new.live.entries c.cut_where_finished.ensures.live c.cut_where_finished.new.since c.cut_where_finished.ensures.since

pub returns : goal.returns
returns g c =
    let at = lent_at _ c.args.p _ (here g.S.Stable.content (health_of g.S.Stable.is_clean g.S.Stable.failed) g.S.Stable.IsSound _ _ _ _ _ _ c.args.p _ c.self.invariant c.self.view_is (there_at _ _ _ _ c.args.p c.self.invariant c.self.view_is _ c.requires)) c.index_mut-member.ensures.value in
    was_declared g.S.Stable.content (health_of g.S.Stable.is_clean g.S.Stable.failed) g.S.Stable.IsSound _ _ _ _ _ _ c.args.p _ at _ _ c.self.invariant c.self.view_is c.at.result c.at.ensures c.declare.new.access c.requires c.in_ok-told.told c.in_ok-told.ensures c.cut_where_finished.new.live.entries c.cut_where_finished.ensures.live c.cut_where_finished.new.since c.cut_where_finished.ensures.since
