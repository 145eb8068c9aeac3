use Rattle.std.proofs.Common.{◌≡◌, ◌<◌, ◌∙◌, sym, subst, slice_get, Some, Err, rules, refl}
use Rattle.om_process.specs.declared.accept.Accept.TheVariants as accepts
use Rattle.om_world.specs.declared.event.Event.{Event}
use Rattle.om_world.specs.declared.event.Refusal.TheVariants as refusals
use Rattle.om_world.specs.Changes.{IsUp}
use Rattle.om_world.specs.Happened.{GiveHappened, Happened}
use Rattle.om_world.specs.World.{WorldState, entry_of}
use Rattle.om_world.specs.steps.Members.{health_of}
use Rattle.om_world.specs.steps.Moves.{Keeps, answered}
use Rattle.om_world.proofs.Acting.{offered_as_seen, offered_in, offered_world}
use Rattle.om_world.proofs.Giving.{after_give, after_none, given_none, given_taken, no_room, none_given, none_taken}
use Rattle.om_world.proofs.Keeping.{keeps_by}
use Rattle.om_world.proofs.Lists.{lent_at}
use Rattle.om_world.proofs.NotRunning.{told_not_running}
use Rattle.om_world.proofs.Seats.{here, is_up, stands_up}
use Rattle.om_world.proofs.world.World.give.Goals as goal

pub index_mut-member-requires : goal.index_mut-member-requires
index_mut-member-requires g c = subst (λ n. c.args.p < n) (sym c.self.inside.members.ok.0) (here g.S.Stable.content (health_of g.S.Stable.is_clean g.S.Stable.failed) g.S.Stable.IsSound _ _ _ _ _ _ c.args.p _ c.self.invariant c.self.view_is c.in_ok-is_up.ensures.there)

pub invariant_of-self-in-Taken : goal.invariant_of-self-in-Taken
invariant_of-self-in-Taken g c =
    let frame : slice_get c.self.inside.frames.items c.args.f ≡ Some c.index-message.result.now = lent_at _ c.args.f _ (subst (λ n. c.args.f < n) (c.len.ensures ∙ c.self.inside.frames.ok.0) c.if-f-len.false) c.index-message.ensures in
    let up = subst (λ (w : WorldState). IsUp w c.args.p) (sym c.self.view_is) c.in_ok-is_up.ensures.up in
    let at = lent_at _ c.args.p _ (here g.S.Stable.content (health_of g.S.Stable.is_clean g.S.Stable.failed) g.S.Stable.IsSound _ _ _ _ _ _ c.args.p _ c.self.invariant c.self.view_is c.in_ok-is_up.ensures.there) c.index_mut-member.ensures.value in
    let o = offered_in g.S.Stable.content g.S.Stable.is_clean g.S.Stable.failed g.S.Stable.IsSound _ _ _ _ _ _ c.args.p _ at _ _ c.self.invariant c.self.view_is c.index-message.result.now c.in_ok-told.told c.in_ok-told.ensures.offered (accepts.Taken c.in-Taken.x) c.in-Taken.is in
    offered_world g.S.Stable.content g.S.Stable.is_clean g.S.Stable.failed g.S.Stable.IsSound _ _ _ _ _ _ c.args.p _ at _ _ c.self.invariant c.self.view_is c.index-message.result.now c.in_ok-told.told c.in_ok-told.ensures.offered c.longer-self-inside.result.entries
    (after_give _ _ _ c.args.p c.args.f c.in-Taken.x c.index-message.result.now (entry_of c.index-message.result.now) _ c.longer-self-inside.result.entries c.self.invariant up frame refl o c.longer-self-inside.ensures)

pub returns-in-Taken-clause-happened : goal.returns-in-Taken-clause-happened
returns-in-Taken-clause-happened g c =
    let frame : slice_get c.self.inside.frames.items c.args.f ≡ Some c.index-message.result.now = lent_at _ c.args.f _ (subst (λ n. c.args.f < n) (c.len.ensures ∙ c.self.inside.frames.ok.0) c.if-f-len.false) c.index-message.ensures in
    let up = subst (λ (w : WorldState). IsUp w c.args.p) (sym c.self.view_is) c.in_ok-is_up.ensures.up in
    let at = lent_at _ c.args.p _ (here g.S.Stable.content (health_of g.S.Stable.is_clean g.S.Stable.failed) g.S.Stable.IsSound _ _ _ _ _ _ c.args.p _ c.self.invariant c.self.view_is c.in_ok-is_up.ensures.there) c.index_mut-member.ensures.value in
    let o = offered_in g.S.Stable.content g.S.Stable.is_clean g.S.Stable.failed g.S.Stable.IsSound _ _ _ _ _ _ c.args.p _ at _ _ c.self.invariant c.self.view_is c.index-message.result.now c.in_ok-told.told c.in_ok-told.ensures.offered (accepts.Taken c.in-Taken.x) c.in-Taken.is in
    offered_as_seen g.S.Stable.content g.S.Stable.is_clean g.S.Stable.failed g.S.Stable.IsSound _ _ _ _ _ _ c.args.p _ at _ _ c.self.invariant c.self.view_is c.index-message.result.now c.in_ok-told.told c.in_ok-told.ensures.offered c.longer-self-inside.result.entries (λ v z. GiveHappened v c.args.p c.args.f (accepts.Taken c.in-Taken.x) z)
    (given_taken _ c.args.p c.args.f c.in-Taken.x c.index-message.result.now (entry_of c.index-message.result.now) _ c.longer-self-inside.result.entries up frame refl o c.longer-self-inside.ensures)

pub invariant_of-self-in-Memory : goal.invariant_of-self-in-Memory
invariant_of-self-in-Memory g c =
    let at = lent_at _ c.args.p _ (here g.S.Stable.content (health_of g.S.Stable.is_clean g.S.Stable.failed) g.S.Stable.IsSound _ _ _ _ _ _ c.args.p _ c.self.invariant c.self.view_is c.in_ok-is_up.ensures.there) c.index_mut-member.ensures.value in
    let o = offered_in g.S.Stable.content g.S.Stable.is_clean g.S.Stable.failed g.S.Stable.IsSound _ _ _ _ _ _ c.args.p _ at _ _ c.self.invariant c.self.view_is c.index-message.result.now c.in_ok-told.told c.in_ok-told.ensures.offered accepts.Memory c.in-Memory.is in
    offered_world g.S.Stable.content g.S.Stable.is_clean g.S.Stable.failed g.S.Stable.IsSound _ _ _ _ _ _ c.args.p _ at _ _ c.self.invariant c.self.view_is c.index-message.result.now c.in_ok-told.told c.in_ok-told.ensures.offered c.self.inside.live.entries (after_none _ _ _ c.self.inside.live.entries _ c.self.invariant refl (none_taken _ _ c.args.p c.index-message.result.now accepts.Memory (λ x e. cc) o))

pub returns-in-Memory-clause-happened : goal.returns-in-Memory-clause-happened
returns-in-Memory-clause-happened g c =
    let frame : slice_get c.self.inside.frames.items c.args.f ≡ Some c.index-message.result.now = lent_at _ c.args.f _ (subst (λ n. c.args.f < n) (c.len.ensures ∙ c.self.inside.frames.ok.0) c.if-f-len.false) c.index-message.ensures in
    let up = subst (λ (w : WorldState). IsUp w c.args.p) (sym c.self.view_is) c.in_ok-is_up.ensures.up in
    let at = lent_at _ c.args.p _ (here g.S.Stable.content (health_of g.S.Stable.is_clean g.S.Stable.failed) g.S.Stable.IsSound _ _ _ _ _ _ c.args.p _ c.self.invariant c.self.view_is c.in_ok-is_up.ensures.there) c.index_mut-member.ensures.value in
    let o = offered_in g.S.Stable.content g.S.Stable.is_clean g.S.Stable.failed g.S.Stable.IsSound _ _ _ _ _ _ c.args.p _ at _ _ c.self.invariant c.self.view_is c.index-message.result.now c.in_ok-told.told c.in_ok-told.ensures.offered accepts.Memory c.in-Memory.is in
    offered_as_seen g.S.Stable.content g.S.Stable.is_clean g.S.Stable.failed g.S.Stable.IsSound _ _ _ _ _ _ c.args.p _ at _ _ c.self.invariant c.self.view_is c.index-message.result.now c.in_ok-told.told c.in_ok-told.ensures.offered c.self.inside.live.entries (λ v z. Happened v (Event.Give c.args.p c.args.f) (answered (Err refusals.Memory)) z)
    (no_room _ _ c.args.p c.args.f c.index-message.result.now (Err refusals.Memory) up c.self.invariant.shape frame refl (none_given _ c.self.inside.live.entries _ refl (none_taken _ _ c.args.p c.index-message.result.now accepts.Memory (λ x e. cc) o)))

pub invariant_of-self-in_default : goal.invariant_of-self-in_default
invariant_of-self-in_default g c =
    let at = lent_at _ c.args.p _ (here g.S.Stable.content (health_of g.S.Stable.is_clean g.S.Stable.failed) g.S.Stable.IsSound _ _ _ _ _ _ c.args.p _ c.self.invariant c.self.view_is c.in_ok-is_up.ensures.there) c.index_mut-member.ensures.value in
    let o = offered_in g.S.Stable.content g.S.Stable.is_clean g.S.Stable.failed g.S.Stable.IsSound _ _ _ _ _ _ c.args.p _ at _ _ c.self.invariant c.self.view_is c.index-message.result.now c.in_ok-told.told c.in_ok-told.ensures.offered c.in_ok-told.told refl in
    offered_world g.S.Stable.content g.S.Stable.is_clean g.S.Stable.failed g.S.Stable.IsSound _ _ _ _ _ _ c.args.p _ at _ _ c.self.invariant c.self.view_is c.index-message.result.now c.in_ok-told.told c.in_ok-told.ensures.offered c.self.inside.live.entries (after_none _ _ _ c.self.inside.live.entries _ c.self.invariant refl (none_taken _ _ c.args.p c.index-message.result.now c.in_ok-told.told c.in_default.not-Taken o))

pub returns-in_default-clause-happened : goal.returns-in_default-clause-happened
returns-in_default-clause-happened g c =
    let frame : slice_get c.self.inside.frames.items c.args.f ≡ Some c.index-message.result.now = lent_at _ c.args.f _ (subst (λ n. c.args.f < n) (c.len.ensures ∙ c.self.inside.frames.ok.0) c.if-f-len.false) c.index-message.ensures in
    let up = subst (λ (w : WorldState). IsUp w c.args.p) (sym c.self.view_is) c.in_ok-is_up.ensures.up in
    let at = lent_at _ c.args.p _ (here g.S.Stable.content (health_of g.S.Stable.is_clean g.S.Stable.failed) g.S.Stable.IsSound _ _ _ _ _ _ c.args.p _ c.self.invariant c.self.view_is c.in_ok-is_up.ensures.there) c.index_mut-member.ensures.value in
    let o = offered_in g.S.Stable.content g.S.Stable.is_clean g.S.Stable.failed g.S.Stable.IsSound _ _ _ _ _ _ c.args.p _ at _ _ c.self.invariant c.self.view_is c.index-message.result.now c.in_ok-told.told c.in_ok-told.ensures.offered c.in_ok-told.told refl in
    offered_as_seen g.S.Stable.content g.S.Stable.is_clean g.S.Stable.failed g.S.Stable.IsSound _ _ _ _ _ _ c.args.p _ at _ _ c.self.invariant c.self.view_is c.index-message.result.now c.in_ok-told.told c.in_ok-told.ensures.offered c.self.inside.live.entries (λ v z. GiveHappened v c.args.p c.args.f c.in_ok-told.told z)
    (given_none _ c.self.inside.live.entries c.args.p c.args.f c.index-message.result.now c.in_ok-told.told _ refl up frame c.in_default.not-Taken c.in_default.not-Memory o)

pub returns-in_err-is_up-clause-happened : goal.returns-in_err-is_up-clause-happened
returns-in_err-is_up-clause-happened g c =
    let is : c.from_residual.result ≡ Err c.in_err-is_up.field-0.0 = search rules in
    told_not_running _ _ c.args.p (Event.Give c.args.p c.args.f) _ _ (λ n. n) (λ n. n) is c.in_err-is_up.ensures.not_running

pub returns-in_err-is_up-clause-keeps : goal.returns-in_err-is_up-clause-keeps
returns-in_err-is_up-clause-keeps g c = keeps_by _ _ refl refl refl

pub returns-then-f-len-clause-keeps : goal.returns-then-f-len-clause-keeps
returns-then-f-len-clause-keeps g c = keeps_by _ _ refl refl refl

pub returns-in-Taken-clause-keeps : goal.returns-in-Taken-clause-keeps
returns-in-Taken-clause-keeps g c =
    let at = lent_at _ c.args.p _ (here g.S.Stable.content (health_of g.S.Stable.is_clean g.S.Stable.failed) g.S.Stable.IsSound _ _ _ _ _ _ c.args.p _ c.self.invariant c.self.view_is c.in_ok-is_up.ensures.there) c.index_mut-member.ensures.value in
    offered_as_seen g.S.Stable.content g.S.Stable.is_clean g.S.Stable.failed g.S.Stable.IsSound _ _ _ _ _ _ c.args.p _ at _ _ c.self.invariant c.self.view_is c.index-message.result.now c.in_ok-told.told c.in_ok-told.ensures.offered c.longer-self-inside.result.entries (λ v z. Keeps v z) (keeps_by _ _ refl refl refl)

pub returns-in-Memory-clause-keeps : goal.returns-in-Memory-clause-keeps
returns-in-Memory-clause-keeps g c =
    let at = lent_at _ c.args.p _ (here g.S.Stable.content (health_of g.S.Stable.is_clean g.S.Stable.failed) g.S.Stable.IsSound _ _ _ _ _ _ c.args.p _ c.self.invariant c.self.view_is c.in_ok-is_up.ensures.there) c.index_mut-member.ensures.value in
    offered_as_seen g.S.Stable.content g.S.Stable.is_clean g.S.Stable.failed g.S.Stable.IsSound _ _ _ _ _ _ c.args.p _ at _ _ c.self.invariant c.self.view_is c.index-message.result.now c.in_ok-told.told c.in_ok-told.ensures.offered c.self.inside.live.entries (λ v z. Keeps v z) (keeps_by _ _ refl refl refl)

pub returns-in_default-clause-keeps : goal.returns-in_default-clause-keeps
returns-in_default-clause-keeps g c =
    let at = lent_at _ c.args.p _ (here g.S.Stable.content (health_of g.S.Stable.is_clean g.S.Stable.failed) g.S.Stable.IsSound _ _ _ _ _ _ c.args.p _ c.self.invariant c.self.view_is c.in_ok-is_up.ensures.there) c.index_mut-member.ensures.value in
    offered_as_seen g.S.Stable.content g.S.Stable.is_clean g.S.Stable.failed g.S.Stable.IsSound _ _ _ _ _ _ c.args.p _ at _ _ c.self.invariant c.self.view_is c.index-message.result.now c.in_ok-told.told c.in_ok-told.ensures.offered c.self.inside.live.entries (λ v z. Keeps v z) (keeps_by _ _ refl refl refl)

pub returns-in_err-told-clause-happened : goal.returns-in_err-told-clause-happened
returns-in_err-told-clause-happened g c =
    let at = lent_at _ c.args.p _ (here g.S.Stable.content (health_of g.S.Stable.is_clean g.S.Stable.failed) g.S.Stable.IsSound _ _ _ _ _ _ c.args.p _ c.self.invariant c.self.view_is c.in_ok-is_up.ensures.there) c.index_mut-member.ensures.value in
    absurd (stands_up _ (is_up g.S.Stable.content (health_of g.S.Stable.is_clean g.S.Stable.failed) g.S.Stable.IsSound _ _ _ _ _ _ c.args.p _ at _ c.self.view_is c.in_ok-is_up.ensures.up) c.in_err-told.ensures.not_up)

pub returns-in_err-told-clause-keeps : goal.returns-in_err-told-clause-keeps
returns-in_err-told-clause-keeps g c =
    let at = lent_at _ c.args.p _ (here g.S.Stable.content (health_of g.S.Stable.is_clean g.S.Stable.failed) g.S.Stable.IsSound _ _ _ _ _ _ c.args.p _ c.self.invariant c.self.view_is c.in_ok-is_up.ensures.there) c.index_mut-member.ensures.value in
    absurd (stands_up _ (is_up g.S.Stable.content (health_of g.S.Stable.is_clean g.S.Stable.failed) g.S.Stable.IsSound _ _ _ _ _ _ c.args.p _ at _ c.self.view_is c.in_ok-is_up.ensures.up) c.in_err-told.ensures.not_up)

pub returns-in_err-told-clause-faultless : goal.returns-in_err-told-clause-faultless
returns-in_err-told-clause-faultless g c =
    let at = lent_at _ c.args.p _ (here g.S.Stable.content (health_of g.S.Stable.is_clean g.S.Stable.failed) g.S.Stable.IsSound _ _ _ _ _ _ c.args.p _ c.self.invariant c.self.view_is c.in_ok-is_up.ensures.there) c.index_mut-member.ensures.value in
    absurd (stands_up _ (is_up g.S.Stable.content (health_of g.S.Stable.is_clean g.S.Stable.failed) g.S.Stable.IsSound _ _ _ _ _ _ c.args.p _ at _ c.self.view_is c.in_ok-is_up.ensures.up) c.in_err-told.ensures.not_up)
