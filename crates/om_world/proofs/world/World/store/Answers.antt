use Rattle.std.proofs.Common.{◌<◌, ◌∙◌, ap, subst, sym}
use Rattle.om_world.specs.steps.Members.{health_of}
use Rattle.om_world.specs.steps.Moves.{refusal_of_store, told_of}
use Rattle.om_world.proofs.Acting.{after_stored, has_stored, since_told_ok}
use Rattle.om_world.proofs.Lists.{lent_at}
use Rattle.om_world.proofs.Seats.{faultless_stored, up_here}
use Rattle.om_world.proofs.world.World.store.Goals as goal

pub index_mut-member-requires : goal.index_mut-member-requires
index_mut-member-requires g c = subst (λ n. c.args.p < n) (sym c.self.inside.members.ok.0) (up_here g.S.Stable.content (health_of g.S.Stable.is_clean g.S.Stable.failed) g.S.Stable.IsSound _ _ _ _ _ _ c.args.p _ c.self.view_is c.requires)

pub invariant_of-self : goal.invariant_of-self
invariant_of-self g c =
    let at = lent_at _ c.args.p _ (up_here g.S.Stable.content (health_of g.S.Stable.is_clean g.S.Stable.failed) g.S.Stable.IsSound _ _ _ _ _ _ c.args.p _ c.self.view_is c.requires) c.index_mut-member.ensures.value in
    after_stored g.S.Stable.content g.S.Stable.is_clean g.S.Stable.failed g.S.Stable.IsSound _ _ _ _ _ _ c.args.p _ at _ _ c.self.invariant c.self.view_is c.args.kind c.store.result c.requires c.store.ensures.stored c.store.ensures.not_up c.told_stored-told.result c.told_stored-told.ensures c.has_pending-has_rows.result c.has_pending-has_rows.ensures c.note_stored.new.self c.note_stored.ensures

pub returns-clause-called : goal.returns-clause-called
returns-clause-called g c =
    let at = lent_at _ c.args.p _ (up_here g.S.Stable.content (health_of g.S.Stable.is_clean g.S.Stable.failed) g.S.Stable.IsSound _ _ _ _ _ _ c.args.p _ c.self.view_is c.requires) c.index_mut-member.ensures.value in
    let h = has_stored g.S.Stable.content g.S.Stable.is_clean g.S.Stable.failed g.S.Stable.IsSound _ _ _ _ _ _ c.args.p _ at _ _ c.self.invariant c.self.view_is c.args.kind c.store.result c.requires c.store.ensures.stored c.store.ensures.not_up c.told_stored-told.result c.told_stored-told.ensures c.has_pending-has_rows.result c.has_pending-has_rows.ensures c.note_stored.new.self c.note_stored.ensures in
    (h.0, h.1, c.told_stored-told.ensures ∙ ap (told_of refusal_of_store) h.2)

pub returns-clause-stored : goal.returns-clause-stored
returns-clause-stored g c =
    let at = lent_at _ c.args.p _ (up_here g.S.Stable.content (health_of g.S.Stable.is_clean g.S.Stable.failed) g.S.Stable.IsSound _ _ _ _ _ _ c.args.p _ c.self.view_is c.requires) c.index_mut-member.ensures.value in
    since_told_ok g.S.Stable.content g.S.Stable.is_clean g.S.Stable.failed g.S.Stable.IsSound _ _ _ _ _ _ c.args.p _ at _ _ c.self.invariant c.self.view_is c.args.kind c.store.result c.requires c.store.ensures.stored c.store.ensures.not_up c.told_stored-told.result c.told_stored-told.ensures c.has_pending-has_rows.result c.has_pending-has_rows.ensures c.note_stored.new.self c.note_stored.ensures

pub returns-clause-faultless : goal.returns-clause-faultless
returns-clause-faultless g c = λ always. faultless_stored c.store.result c.told_stored-told.result c.told_stored-told.ensures (c.store.ensures.faultless always)
