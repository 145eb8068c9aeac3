use Rattle.std.proofs.Common.{◌≡◌, ◌<◌, ◌∙◌, Err, rules, subst, sym}
use Rattle.om_world.specs.steps.Members.{health_of}
use Rattle.om_world.proofs.Lists.{lent_at}
use Rattle.om_world.proofs.Rising.{after_enter, after_no_entry, entered, no_entry}
use Rattle.om_world.proofs.Seats.{up_here}
use Rattle.om_world.proofs.Standing.{few, there_at}
use Rattle.om_world.proofs.world.World.enter.Goals as goal

pub at-requires : goal.at-requires
at-requires g c = few _ _ _ _ c.args.p c.self.invariant c.self.view_is (there_at _ _ _ _ c.args.p c.self.invariant c.self.view_is _ c.requires)

pub index_mut-member-requires : goal.index_mut-member-requires
index_mut-member-requires g c = subst (λ n. c.args.p < n) (sym c.self.inside.members.ok.0) (up_here g.S.Stable.content (health_of g.S.Stable.is_clean g.S.Stable.failed) g.S.Stable.IsSound _ _ _ _ _ _ c.args.p _ c.self.view_is c.requires)

pub invariant_of-self : goal.invariant_of-self
invariant_of-self g c =
    let at = lent_at _ c.args.p _ (up_here g.S.Stable.content (health_of g.S.Stable.is_clean g.S.Stable.failed) g.S.Stable.IsSound _ _ _ _ _ _ c.args.p _ c.self.view_is c.requires) c.index_mut-member.ensures.value in
    after_no_entry g.S.Stable.content (health_of g.S.Stable.is_clean g.S.Stable.failed) g.S.Stable.IsSound _ _ _ _ _ _ c.args.p _ at _ _ c.self.invariant c.self.view_is c.at.result c.at.ensures c.join.new.access c.requires c.join.result c.join.ensures.joined c.join.ensures.not_up c.told_joined.result c.in_err-told.field-0.0 c.told_joined.ensures c.in_err-told.was

pub returns-in_err-told : goal.returns-in_err-told
returns-in_err-told g c =
    let at = lent_at _ c.args.p _ (up_here g.S.Stable.content (health_of g.S.Stable.is_clean g.S.Stable.failed) g.S.Stable.IsSound _ _ _ _ _ _ c.args.p _ c.self.view_is c.requires) c.index_mut-member.ensures.value in
    let is : c.from_residual.result ≡ Err c.in_err-told.field-0.0 = search rules in
    let h = no_entry g.S.Stable.content (health_of g.S.Stable.is_clean g.S.Stable.failed) g.S.Stable.IsSound _ _ _ _ _ _ c.args.p _ at _ _ c.self.invariant c.self.view_is c.at.result c.at.ensures c.join.new.access c.requires c.join.result c.join.ensures.joined c.join.ensures.not_up c.told_joined.result c.in_err-told.field-0.0 c.told_joined.ensures c.in_err-told.was in
    (h.0, h.1, is ∙ h.2)

pub invariant_of-self-2 : goal.invariant_of-self-2
invariant_of-self-2 g c =
    let at = lent_at _ c.args.p _ (up_here g.S.Stable.content (health_of g.S.Stable.is_clean g.S.Stable.failed) g.S.Stable.IsSound _ _ _ _ _ _ c.args.p _ c.self.view_is c.requires) c.index_mut-member.ensures.value in
    after_enter g.S.Stable.content (health_of g.S.Stable.is_clean g.S.Stable.failed) g.S.Stable.IsSound _ _ _ _ _ _ c.args.p _ at _ _ c.self.invariant c.self.view_is c.at.result c.at.ensures c.join.new.access c.requires c.join.result c.join.ensures.joined c.join.ensures.not_up c.told_joined.result c.in_ok-told.told c.told_joined.ensures c.in_ok-told.was c.cut_where_finished.new.live.entries c.cut_where_finished.ensures.live c.cut_where_finished.new.since c.cut_where_finished.ensures.since

pub returns : goal.returns
returns g c =
    let at = lent_at _ c.args.p _ (up_here g.S.Stable.content (health_of g.S.Stable.is_clean g.S.Stable.failed) g.S.Stable.IsSound _ _ _ _ _ _ c.args.p _ c.self.view_is c.requires) c.index_mut-member.ensures.value in
    entered g.S.Stable.content (health_of g.S.Stable.is_clean g.S.Stable.failed) g.S.Stable.IsSound _ _ _ _ _ _ c.args.p _ at _ _ c.self.invariant c.self.view_is c.at.result c.at.ensures c.join.new.access c.requires c.join.result c.join.ensures.joined c.join.ensures.not_up c.told_joined.result c.in_ok-told.told c.told_joined.ensures c.in_ok-told.was c.cut_where_finished.new.live.entries c.cut_where_finished.ensures.live c.cut_where_finished.new.since c.cut_where_finished.ensures.since
