use Rattle.std.proofs.Common.{◌<◌, ◌∙◌, ap, subst, sym}
use Rattle.om_manager.specs.State.{process_count}
use Rattle.om_world.specs.steps.Members.{health_of}
use Rattle.om_world.specs.steps.Moves.{told_of}
use Rattle.om_world.specs.steps.Running.{refusal_of_output}
use Rattle.om_world.proofs.Acting.{after_hand, has_handed_in}
use Rattle.om_world.proofs.Lists.{lent_at}
use Rattle.om_world.proofs.Seats.{up_here}
use Rattle.om_world.proofs.Standing.{few, known, there_at}
use Rattle.om_world.proofs.world.World.hand_in.Goals as goal

pub at-requires : goal.at-requires
at-requires g c = few _ _ _ _ c.args.p c.self.invariant c.self.view_is (there_at _ _ _ _ c.args.p c.self.invariant c.self.view_is _ c.requires)

pub index-member-requires : goal.index-member-requires
index-member-requires g c = subst (λ n. c.args.p < n) (sym c.self.inside.members.ok.0) (up_here g.S.Stable.content (health_of g.S.Stable.is_clean g.S.Stable.failed) g.S.Stable.IsSound _ _ _ _ _ _ c.args.p _ c.self.view_is c.requires)

pub hand_in-requires-clause-known : goal.hand_in-requires-clause-known
hand_in-requires-clause-known g c = subst (λ q. q < process_count c.self.inside.manager) (sym c.at.ensures) (known _ _ _ _ c.args.p c.self.invariant c.self.view_is (there_at _ _ _ _ c.args.p c.self.invariant c.self.view_is _ c.requires))

pub hand_in-requires-clause-taken : goal.hand_in-requires-clause-taken
hand_in-requires-clause-taken g c = λ core up made has. tt

pub invariant_of-self : goal.invariant_of-self
invariant_of-self g c =
    let at = lent_at _ c.args.p _ (up_here g.S.Stable.content (health_of g.S.Stable.is_clean g.S.Stable.failed) g.S.Stable.IsSound _ _ _ _ _ _ c.args.p _ c.self.view_is c.requires) c.index-member.ensures in
    after_hand g.S.Stable.content (health_of g.S.Stable.is_clean g.S.Stable.failed) g.S.Stable.IsSound _ _ _ _ _ _ c.args.p _ at _ c.self.invariant c.self.view_is c.at.result c.at.ensures c.hand_in.new.access c.hand_in.result c.requires c.hand_in.ensures.handed c.hand_in.ensures.not_up

pub returns : goal.returns
returns g c =
    let at = lent_at _ c.args.p _ (up_here g.S.Stable.content (health_of g.S.Stable.is_clean g.S.Stable.failed) g.S.Stable.IsSound _ _ _ _ _ _ c.args.p _ c.self.view_is c.requires) c.index-member.ensures in
    let h = has_handed_in g.S.Stable.content (health_of g.S.Stable.is_clean g.S.Stable.failed) g.S.Stable.IsSound _ _ _ _ _ _ c.args.p _ at _ c.self.invariant c.self.view_is c.at.result c.at.ensures c.hand_in.new.access c.hand_in.result c.requires c.hand_in.ensures.handed c.hand_in.ensures.not_up in
    (h.0, h.1, c.told_handed.ensures ∙ ap (told_of refusal_of_output) h.2)
