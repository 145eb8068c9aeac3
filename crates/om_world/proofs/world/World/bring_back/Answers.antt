use Rattle.std.proofs.Common.{◌≡◌, ◌<◌, ◌∙◌, ap, length, subst, sym}
use Rattle.std.specs.Prelude.{slice_index}
use Rattle.om_interval.specs.Starts.{newest_of}
use Rattle.om_manager.specs.State.{process_count}
use Rattle.om_world.specs.steps.Members.{health_of}
use Rattle.om_world.proofs.Lists.{lent_at}
use Rattle.om_world.proofs.Rising.{after_return, returned}
use Rattle.om_world.proofs.Seats.{here}
use Rattle.om_world.proofs.Standing.{few, known}
use Rattle.om_world.proofs.world.World.bring_back.Goals as goal

pub at-requires : goal.at-requires
at-requires g c = few _ _ _ _ c.args.p c.self.invariant c.self.view_is c.requires.there

pub at-requires-2 : goal.at-requires-2
at-requires-2 g c = few _ _ _ _ c.args.p c.self.invariant c.self.view_is c.requires.there

pub verdict-verdict-requires : goal.verdict-verdict-requires
verdict-verdict-requires g c = subst (λ q. q < process_count c.self.inside.manager) (sym c.at.ensures) (known _ _ _ _ c.args.p c.self.invariant c.self.view_is c.requires.there)

pub index_mut-member-requires : goal.index_mut-member-requires
index_mut-member-requires g c = subst (λ n. c.args.p < n) (sym c.self.inside.members.ok.0) (here g.S.Stable.content (health_of g.S.Stable.is_clean g.S.Stable.failed) g.S.Stable.IsSound _ _ _ _ _ _ c.args.p _ c.self.invariant c.self.view_is c.requires.there)

pub invariant_of-self : goal.invariant_of-self
invariant_of-self g c =
    let at = lent_at _ c.args.p _ (here g.S.Stable.content (health_of g.S.Stable.is_clean g.S.Stable.failed) g.S.Stable.IsSound _ _ _ _ _ _ c.args.p _ c.self.invariant c.self.view_is c.requires.there) c.index_mut-member.ensures.value in
    let many = c.n.ensures.places ∙ ap length c.recovery.ensures.recovery in
    after_return g.S.Stable.content g.S.Stable.is_clean g.S.Stable.failed g.S.Stable.IsSound _ _ _ _ _ _ c.args.p _ at _ _ c.self.invariant c.self.view_is c.requires.there c.requires.news _ c.at-2.ensures many c.starts.result.now c.starts.ensures c.verdict-verdict.result c.verdict-verdict.ensures.round (c.verdict-verdict.ensures.inc ∙ ap (newest_of c.self.inside.manager.starts) c.at.ensures) (subst (λ q. c.verdict-verdict.result.r ≡ slice_index c.self.inside.manager.last q) c.at.ensures c.verdict-verdict.ensures.r) c.come_back.result c.come_back.ensures.back c.come_back.ensures.stays

pub returns-clause-back : goal.returns-clause-back
returns-clause-back g c =
    let at = lent_at _ c.args.p _ (here g.S.Stable.content (health_of g.S.Stable.is_clean g.S.Stable.failed) g.S.Stable.IsSound _ _ _ _ _ _ c.args.p _ c.self.invariant c.self.view_is c.requires.there) c.index_mut-member.ensures.value in
    let many = c.n.ensures.places ∙ ap length c.recovery.ensures.recovery in
    returned g.S.Stable.content g.S.Stable.is_clean g.S.Stable.failed g.S.Stable.IsSound _ _ _ _ _ _ c.args.p _ at _ _ c.self.invariant c.self.view_is c.requires.there c.requires.news _ c.at-2.ensures many c.starts.result.now c.starts.ensures c.verdict-verdict.result c.verdict-verdict.ensures.round (c.verdict-verdict.ensures.inc ∙ ap (newest_of c.self.inside.manager.starts) c.at.ensures) (subst (λ q. c.verdict-verdict.result.r ≡ slice_index c.self.inside.manager.last q) c.at.ensures c.verdict-verdict.ensures.r) c.come_back.result c.come_back.ensures.back c.come_back.ensures.stays

pub returns-clause-faultless : goal.returns-clause-faultless
returns-clause-faultless g c = c.come_back.ensures.faultless
