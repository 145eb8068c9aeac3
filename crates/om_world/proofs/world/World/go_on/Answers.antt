use Rattle.std.proofs.Common.{◌<◌, subst, sym}
use Rattle.om_manager.specs.State.{process_count}
use Rattle.om_world.specs.steps.Members.{health_of}
use Rattle.om_world.proofs.Lists.{lent_at}
use Rattle.om_world.proofs.Rising.{after_go_on, gone_on, starts_fit}
use Rattle.om_world.proofs.Seats.{here}
use Rattle.om_world.proofs.Standing.{few, known}
use Rattle.om_world.proofs.world.World.go_on.Goals as goal

pub at-requires : goal.at-requires
at-requires g c = few _ _ _ _ c.args.p c.self.invariant c.self.view_is c.requires.there

pub verdict-verdict-requires : goal.verdict-verdict-requires
verdict-verdict-requires g c = subst (λ q. q < process_count c.self.inside.manager) (sym c.at.ensures) (known _ _ _ _ c.args.p c.self.invariant c.self.view_is c.requires.there)

pub index_mut-member-requires : goal.index_mut-member-requires
index_mut-member-requires g c = subst (λ n. c.args.p < n) (sym c.self.inside.members.ok.0) (here g.S.Stable.content (health_of g.S.Stable.is_clean g.S.Stable.failed) g.S.Stable.IsSound _ _ _ _ _ _ c.args.p _ c.self.invariant c.self.view_is c.requires.there)

pub go_on-requires : goal.go_on-requires
go_on-requires g c = λ core joined.
    let at = lent_at _ c.args.p _ (here g.S.Stable.content (health_of g.S.Stable.is_clean g.S.Stable.failed) g.S.Stable.IsSound _ _ _ _ _ _ c.args.p _ c.self.invariant c.self.view_is c.requires.there) c.index_mut-member.ensures.value in
    starts_fit g.S.Stable.content (health_of g.S.Stable.is_clean g.S.Stable.failed) g.S.Stable.IsSound _ _ _ _ _ _ c.args.p _ at c.self.invariant core joined c.starts.result.now c.starts.ensures

pub invariant_of-self : goal.invariant_of-self
invariant_of-self g c =
    let at = lent_at _ c.args.p _ (here g.S.Stable.content (health_of g.S.Stable.is_clean g.S.Stable.failed) g.S.Stable.IsSound _ _ _ _ _ _ c.args.p _ c.self.invariant c.self.view_is c.requires.there) c.index_mut-member.ensures.value in
    after_go_on g.S.Stable.content (health_of g.S.Stable.is_clean g.S.Stable.failed) g.S.Stable.IsSound _ _ _ _ _ _ c.args.p _ at _ _ c.self.invariant c.self.view_is c.requires.due c.verdict-verdict.result.round c.starts.result.now c.verdict-verdict.ensures.round c.starts.ensures c.requires.there c.go_on.result c.go_on.ensures.on c.go_on.ensures.not_in c.go_on.ensures.no_memory

pub returns-clause-on : goal.returns-clause-on
returns-clause-on g c =
    let at = lent_at _ c.args.p _ (here g.S.Stable.content (health_of g.S.Stable.is_clean g.S.Stable.failed) g.S.Stable.IsSound _ _ _ _ _ _ c.args.p _ c.self.invariant c.self.view_is c.requires.there) c.index_mut-member.ensures.value in
    (gone_on g.S.Stable.content (health_of g.S.Stable.is_clean g.S.Stable.failed) g.S.Stable.IsSound _ _ _ _ _ _ c.args.p _ at _ _ c.self.invariant c.self.view_is c.requires.due c.verdict-verdict.result.round c.starts.result.now c.verdict-verdict.ensures.round c.starts.ensures c.requires.there c.go_on.result c.go_on.ensures.on c.go_on.ensures.not_in c.go_on.ensures.no_memory c.told_on.result c.told_on.ensures.on c.told_on.ensures.stopped).0

pub returns-clause-refused : goal.returns-clause-refused
returns-clause-refused g c =
    let at = lent_at _ c.args.p _ (here g.S.Stable.content (health_of g.S.Stable.is_clean g.S.Stable.failed) g.S.Stable.IsSound _ _ _ _ _ _ c.args.p _ c.self.invariant c.self.view_is c.requires.there) c.index_mut-member.ensures.value in
    (gone_on g.S.Stable.content (health_of g.S.Stable.is_clean g.S.Stable.failed) g.S.Stable.IsSound _ _ _ _ _ _ c.args.p _ at _ _ c.self.invariant c.self.view_is c.requires.due c.verdict-verdict.result.round c.starts.result.now c.verdict-verdict.ensures.round c.starts.ensures c.requires.there c.go_on.result c.go_on.ensures.on c.go_on.ensures.not_in c.go_on.ensures.no_memory c.told_on.result c.told_on.ensures.on c.told_on.ensures.stopped).1

pub returns-clause-stopped : goal.returns-clause-stopped
returns-clause-stopped g c =
    let at = lent_at _ c.args.p _ (here g.S.Stable.content (health_of g.S.Stable.is_clean g.S.Stable.failed) g.S.Stable.IsSound _ _ _ _ _ _ c.args.p _ c.self.invariant c.self.view_is c.requires.there) c.index_mut-member.ensures.value in
    (gone_on g.S.Stable.content (health_of g.S.Stable.is_clean g.S.Stable.failed) g.S.Stable.IsSound _ _ _ _ _ _ c.args.p _ at _ _ c.self.invariant c.self.view_is c.requires.due c.verdict-verdict.result.round c.starts.result.now c.verdict-verdict.ensures.round c.starts.ensures c.requires.there c.go_on.result c.go_on.ensures.on c.go_on.ensures.not_in c.go_on.ensures.no_memory c.told_on.result c.told_on.ensures.on c.told_on.ensures.stopped).2
