use Rattle.std.proofs.Common.{◌<◌, subst, sym}
use Rattle.om_recover.specs.Cutting.{IsEffective}
use Rattle.om_manager.specs.State.{process_count}
use Rattle.om_world.specs.World.{recovered}
use Rattle.om_world.specs.steps.Members.{health_of}
use Rattle.om_world.proofs.Acting.{after_prune, was_pruned}
use Rattle.om_world.proofs.Lists.{lent_at}
use Rattle.om_world.proofs.Seats.{here}
use Rattle.om_world.proofs.Standing.{few, known}
use Rattle.om_world.proofs.world.World.prune_store.Goals as goal

pub index_mut-member-requires : goal.index_mut-member-requires
index_mut-member-requires g c = subst (λ n. c.args.p < n) (sym c.self.inside.members.ok.0) (here g.S.Stable.content (health_of g.S.Stable.is_clean g.S.Stable.failed) g.S.Stable.IsSound _ _ _ _ _ _ c.args.p _ c.self.invariant c.self.view_is c.requires)

pub at-requires : goal.at-requires
at-requires g c = few _ _ _ _ c.args.p c.self.invariant c.self.view_is c.requires

pub effective-requires : goal.effective-requires
effective-requires g c = subst (λ q. q < process_count c.self.inside.manager) (sym c.at.ensures) (known _ _ _ _ c.args.p c.self.invariant c.self.view_is c.requires)

pub invariant_of-self : goal.invariant_of-self
invariant_of-self g c =
    let at = lent_at _ c.args.p _ (here g.S.Stable.content (health_of g.S.Stable.is_clean g.S.Stable.failed) g.S.Stable.IsSound _ _ _ _ _ _ c.args.p _ c.self.invariant c.self.view_is c.requires) c.index_mut-member.ensures.value in
    let m = c.self.inside.manager in
    after_prune g.S.Stable.content g.S.Stable.is_clean g.S.Stable.failed g.S.Stable.IsSound _ _ _ _ _ _ c.args.p _ at _ _ c.self.invariant c.self.view_is c.effective.result c.prune.result (subst (λ q. IsEffective m.rows q (recovered m q) c.effective.result) c.at.ensures c.effective.ensures) c.prune.ensures.others c.prune.ensures.pruned

pub returns-clause-pruned : goal.returns-clause-pruned
returns-clause-pruned g c =
    let at = lent_at _ c.args.p _ (here g.S.Stable.content (health_of g.S.Stable.is_clean g.S.Stable.failed) g.S.Stable.IsSound _ _ _ _ _ _ c.args.p _ c.self.invariant c.self.view_is c.requires) c.index_mut-member.ensures.value in
    let m = c.self.inside.manager in
    was_pruned g.S.Stable.content g.S.Stable.is_clean g.S.Stable.failed g.S.Stable.IsSound _ _ _ _ _ _ c.args.p _ at _ _ c.self.invariant c.self.view_is c.effective.result c.prune.result (subst (λ q. IsEffective m.rows q (recovered m q) c.effective.result) c.at.ensures c.effective.ensures) c.prune.ensures.others c.prune.ensures.pruned c.prune.ensures.never_present

pub returns-clause-faultless : goal.returns-clause-faultless
returns-clause-faultless g c = c.prune.ensures.faultless
