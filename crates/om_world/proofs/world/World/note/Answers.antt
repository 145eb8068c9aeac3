use Rattle.std.proofs.Common.{◌≡◌, ◌<◌, Ok, subst, sym}
use Rattle.std.specs.Prelude.{IfOk}
use Rattle.om_world.specs.steps.Members.{health_of}
use Rattle.om_world.specs.steps.Moves.{count_of, refusal_of_record, told_of}
use Rattle.om_world.proofs.Acting.{after_noted, has_noted}
use Rattle.om_world.proofs.Lists.{lent_at}
use Rattle.om_world.proofs.Seats.{up_here}
use Rattle.om_world.proofs.Standing.{few, there_at}
use Rattle.om_world.proofs.world.World.note.Goals as goal

pub at-requires : goal.at-requires
at-requires g c = few _ _ _ _ c.args.p c.self.invariant c.self.view_is (there_at _ _ _ _ c.args.p c.self.invariant c.self.view_is _ c.requires.up)

pub index_mut-member-requires : goal.index_mut-member-requires
index_mut-member-requires g c = subst (λ n. c.args.p < n) (sym c.self.inside.members.ok.0) (up_here g.S.Stable.content (health_of g.S.Stable.is_clean g.S.Stable.failed) g.S.Stable.IsSound _ _ _ _ _ _ c.args.p _ c.self.view_is c.requires.up)

pub invariant_of-self : goal.invariant_of-self
invariant_of-self g c =
    let at = lent_at _ c.args.p _ (up_here g.S.Stable.content (health_of g.S.Stable.is_clean g.S.Stable.failed) g.S.Stable.IsSound _ _ _ _ _ _ c.args.p _ c.self.view_is c.requires.up) c.index_mut-member.ensures.value in
    after_noted g.S.Stable.content g.S.Stable.is_clean g.S.Stable.failed g.S.Stable.IsSound _ _ _ _ _ _ c.args.p _ at _ _ c.self.invariant c.self.view_is c.at.result c.at.ensures c.note.new.access c.note.result c.requires.up c.requires.stored c.note.ensures.noted c.note.ensures.not_up

pub returns : goal.returns
returns g c =
    let at = lent_at _ c.args.p _ (up_here g.S.Stable.content (health_of g.S.Stable.is_clean g.S.Stable.failed) g.S.Stable.IsSound _ _ _ _ _ _ c.args.p _ c.self.view_is c.requires.up) c.index_mut-member.ensures.value in
    let h = has_noted g.S.Stable.content g.S.Stable.is_clean g.S.Stable.failed g.S.Stable.IsSound _ _ _ _ _ _ c.args.p _ at _ _ c.self.invariant c.self.view_is c.at.result c.at.ensures c.note.new.access c.note.result c.requires.up c.requires.stored c.note.ensures.noted c.note.ensures.not_up in
    (h.0, h.1, h.2, subst (λ r. IfOk r (λ told. c.told_noted.result ≡ told_of refusal_of_record (Ok (count_of told.0 told.1)))) h.3 c.told_noted.ensures.noted)
