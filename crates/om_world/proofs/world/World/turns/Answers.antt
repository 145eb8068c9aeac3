use Rattle.std.proofs.Common.{◌<◌, subst, sym}
use Rattle.om_world.specs.steps.Members.{health_of}
use Rattle.om_world.proofs.Acting.{after_run, has_gone_on, has_run, has_stopped, rest_runs}
use Rattle.om_world.proofs.Lists.{lent_at}
use Rattle.om_world.proofs.Seats.{up_here}
use Rattle.om_world.proofs.world.World.turns.Goals as goal

pub index_mut-member-requires : goal.index_mut-member-requires
index_mut-member-requires g c = subst (λ n. c.args.p < n) (sym c.self.inside.members.ok.0) (up_here g.S.Stable.content (health_of g.S.Stable.is_clean g.S.Stable.failed) g.S.Stable.IsSound _ _ _ _ _ _ c.args.p _ c.self.view_is c.requires)

pub invariant_of-self : goal.invariant_of-self
invariant_of-self g c =
    let at = lent_at _ c.args.p _ (up_here g.S.Stable.content (health_of g.S.Stable.is_clean g.S.Stable.failed) g.S.Stable.IsSound _ _ _ _ _ _ c.args.p _ c.self.view_is c.requires) c.index_mut-member.ensures.value in
    after_run g.S.Stable.content g.S.Stable.is_clean g.S.Stable.failed g.S.Stable.IsSound _ _ _ _ _ _ c.args.p _ at _ _ c.self.invariant c.self.view_is c.args.fuel c.run.result c.requires c.run.ensures.goes_on c.run.ensures.not_up

pub returns-clause-goes_on : goal.returns-clause-goes_on
returns-clause-goes_on g c =
    let at = lent_at _ c.args.p _ (up_here g.S.Stable.content (health_of g.S.Stable.is_clean g.S.Stable.failed) g.S.Stable.IsSound _ _ _ _ _ _ c.args.p _ c.self.view_is c.requires) c.index_mut-member.ensures.value in
    has_gone_on g.S.Stable.content g.S.Stable.is_clean g.S.Stable.failed g.S.Stable.IsSound _ _ _ _ _ _ c.args.p _ at _ _ c.self.invariant c.self.view_is c.args.fuel c.run.result c.requires c.run.ensures.goes_on c.run.ensures.not_up

pub returns-clause-rest : goal.returns-clause-rest
returns-clause-rest g c =
    let at = lent_at _ c.args.p _ (up_here g.S.Stable.content (health_of g.S.Stable.is_clean g.S.Stable.failed) g.S.Stable.IsSound _ _ _ _ _ _ c.args.p _ c.self.view_is c.requires) c.index_mut-member.ensures.value in
    rest_runs g.S.Stable.content g.S.Stable.is_clean g.S.Stable.failed g.S.Stable.IsSound _ _ _ _ _ _ c.args.p _ at _ _ c.self.invariant c.self.view_is c.args.fuel c.run.result c.requires c.run.ensures.goes_on c.run.ensures.not_up

pub returns-clause-ran : goal.returns-clause-ran
returns-clause-ran g c =
    let at = lent_at _ c.args.p _ (up_here g.S.Stable.content (health_of g.S.Stable.is_clean g.S.Stable.failed) g.S.Stable.IsSound _ _ _ _ _ _ c.args.p _ c.self.view_is c.requires) c.index_mut-member.ensures.value in
    has_run g.S.Stable.content g.S.Stable.is_clean g.S.Stable.failed g.S.Stable.IsSound _ _ _ _ _ _ c.args.p _ at _ _ c.self.invariant c.self.view_is c.args.fuel c.run.result c.requires c.run.ensures.goes_on c.run.ensures.not_up c.told_ran.result c.told_ran.ensures c.run.ensures.ran

pub returns-clause-stopped : goal.returns-clause-stopped
returns-clause-stopped g c =
    let at = lent_at _ c.args.p _ (up_here g.S.Stable.content (health_of g.S.Stable.is_clean g.S.Stable.failed) g.S.Stable.IsSound _ _ _ _ _ _ c.args.p _ c.self.view_is c.requires) c.index_mut-member.ensures.value in
    has_stopped g.S.Stable.content g.S.Stable.is_clean g.S.Stable.failed g.S.Stable.IsSound _ _ _ _ _ _ c.args.p _ at _ _ c.self.invariant c.self.view_is c.args.fuel c.run.result c.requires c.run.ensures.goes_on c.run.ensures.not_up c.told_ran.result c.told_ran.ensures
