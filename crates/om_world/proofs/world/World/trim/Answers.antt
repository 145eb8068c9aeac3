use Rattle.std.proofs.Common.{◌≡◌, ◌<◌, ◌∙◌, ap, length, set, subst, sym, Err, Some, refl, rules}
use Rattle.om_manager.specs.Bounds.{AreGotFrom}
use Rattle.om_manager.specs.State.{process_count, released_by}
use Rattle.om_world.specs.World.{WorldState}
use Rattle.om_world.specs.steps.Members.{health_of}
use Rattle.om_world.specs.steps.Moves.{trimmed_core}
use Rattle.om_world.proofs.Acting.{after_trimmed, bounds_fit, has_trimmed}
use Rattle.om_world.proofs.Lists.{lent_at}
use Rattle.om_world.proofs.Seats.{here, is_up, stands_up}
use Rattle.om_world.specs.declared.event.Event.{Event}
use Rattle.om_world.proofs.Keeping.{keeps_by}
use Rattle.om_world.proofs.NotRunning.{told_not_running}
use Rattle.om_world.proofs.Standing.{few, known}
use Rattle.om_world.proofs.world.World.trim.Goals as goal

pub index_mut-member-requires : goal.index_mut-member-requires
index_mut-member-requires g c = subst (λ n. c.args.p < n) (sym c.self.inside.members.ok.0) (here g.S.Stable.content (health_of g.S.Stable.is_clean g.S.Stable.failed) g.S.Stable.IsSound _ _ _ _ _ _ c.args.p _ c.self.invariant c.self.view_is c.in_ok-is_up.ensures.there)

pub trim-requires : goal.trim-requires
trim-requires g c = λ core up.
    let at = lent_at _ c.args.p _ (here g.S.Stable.content (health_of g.S.Stable.is_clean g.S.Stable.failed) g.S.Stable.IsSound _ _ _ _ _ _ c.args.p _ c.self.invariant c.self.view_is c.in_ok-is_up.ensures.there) c.index_mut-member.ensures.value in
    bounds_fit g.S.Stable.content (health_of g.S.Stable.is_clean g.S.Stable.failed) g.S.Stable.IsSound _ _ _ _ _ _ c.args.p _ at c.self.invariant core up c.bounds-bounds.result.got c.bounds-bounds.ensures.got

pub invariant_of-self-2 : goal.invariant_of-self-2
invariant_of-self-2 g c =
    let at = lent_at _ c.args.p _ (here g.S.Stable.content (health_of g.S.Stable.is_clean g.S.Stable.failed) g.S.Stable.IsSound _ _ _ _ _ _ c.args.p _ c.self.invariant c.self.view_is c.in_ok-is_up.ensures.there) c.index_mut-member.ensures.value in
    let b = c.bounds-bounds.result in let m = c.self.inside.manager in
    after_trimmed g.S.Stable.content g.S.Stable.is_clean g.S.Stable.failed g.S.Stable.IsSound _ _ _ _ _ _ c.args.p _ at _ _ c.self.invariant c.self.view_is b.got b.released c.trim.result c.in_ok-is_up.ensures.up c.trim.ensures.trimmed c.trim.ensures.not_up c.in_ok-is_up.ensures.there (subst (λ p. AreGotFrom m.rows m.recovery p b.got) c.at.ensures c.bounds-bounds.ensures.got) (subst (λ p. b.released ≡ length (released_by m p)) c.at.ensures c.bounds-bounds.ensures.released)

pub invariant_of-self : goal.invariant_of-self
invariant_of-self g c =
    let at = lent_at _ c.args.p _ (here g.S.Stable.content (health_of g.S.Stable.is_clean g.S.Stable.failed) g.S.Stable.IsSound _ _ _ _ _ _ c.args.p _ c.self.invariant c.self.view_is c.in_ok-is_up.ensures.there) c.index_mut-member.ensures.value in
    absurd (stands_up _ (is_up g.S.Stable.content (health_of g.S.Stable.is_clean g.S.Stable.failed) g.S.Stable.IsSound _ _ _ _ _ _ c.args.p _ at _ c.self.view_is c.in_ok-is_up.ensures.up) c.in_err-trim.ensures.not_up)

pub returns-in_err-trim-clause-happened : goal.returns-in_err-trim-clause-happened
returns-in_err-trim-clause-happened g c =
    let at = lent_at _ c.args.p _ (here g.S.Stable.content (health_of g.S.Stable.is_clean g.S.Stable.failed) g.S.Stable.IsSound _ _ _ _ _ _ c.args.p _ c.self.invariant c.self.view_is c.in_ok-is_up.ensures.there) c.index_mut-member.ensures.value in
    absurd (stands_up _ (is_up g.S.Stable.content (health_of g.S.Stable.is_clean g.S.Stable.failed) g.S.Stable.IsSound _ _ _ _ _ _ c.args.p _ at _ c.self.view_is c.in_ok-is_up.ensures.up) c.in_err-trim.ensures.not_up)

pub returns-in_err-trim-clause-keeps : goal.returns-in_err-trim-clause-keeps
returns-in_err-trim-clause-keeps g c =
    let at = lent_at _ c.args.p _ (here g.S.Stable.content (health_of g.S.Stable.is_clean g.S.Stable.failed) g.S.Stable.IsSound _ _ _ _ _ _ c.args.p _ c.self.invariant c.self.view_is c.in_ok-is_up.ensures.there) c.index_mut-member.ensures.value in
    absurd (stands_up _ (is_up g.S.Stable.content (health_of g.S.Stable.is_clean g.S.Stable.failed) g.S.Stable.IsSound _ _ _ _ _ _ c.args.p _ at _ c.self.view_is c.in_ok-is_up.ensures.up) c.in_err-trim.ensures.not_up)

pub returns-in_err-trim-clause-faultless : goal.returns-in_err-trim-clause-faultless
returns-in_err-trim-clause-faultless g c =
    let at = lent_at _ c.args.p _ (here g.S.Stable.content (health_of g.S.Stable.is_clean g.S.Stable.failed) g.S.Stable.IsSound _ _ _ _ _ _ c.args.p _ c.self.invariant c.self.view_is c.in_ok-is_up.ensures.there) c.index_mut-member.ensures.value in
    absurd (stands_up _ (is_up g.S.Stable.content (health_of g.S.Stable.is_clean g.S.Stable.failed) g.S.Stable.IsSound _ _ _ _ _ _ c.args.p _ at _ c.self.view_is c.in_ok-is_up.ensures.up) c.in_err-trim.ensures.not_up)

pub returns-clause-happened : goal.returns-clause-happened
returns-clause-happened g c =
    let at = lent_at _ c.args.p _ (here g.S.Stable.content (health_of g.S.Stable.is_clean g.S.Stable.failed) g.S.Stable.IsSound _ _ _ _ _ _ c.args.p _ c.self.invariant c.self.view_is c.in_ok-is_up.ensures.there) c.index_mut-member.ensures.value in
    let b = c.bounds-bounds.result in let v = c.args.self.now in
    let got = subst (λ (x : WorldState). AreGotFrom x.manager.rows x.manager.recovery c.args.p b.got) c.self.view_is (subst (λ q. AreGotFrom c.self.inside.manager.rows c.self.inside.manager.recovery q b.got) c.at.ensures c.bounds-bounds.ensures.got) in
    let is = subst (λ (x : WorldState). b.released ≡ length (released_by x.manager c.args.p)) c.self.view_is (subst (λ q. b.released ≡ length (released_by c.self.inside.manager q)) c.at.ensures c.bounds-bounds.ensures.released) in
    let t = has_trimmed g.S.Stable.content g.S.Stable.is_clean g.S.Stable.failed g.S.Stable.IsSound _ _ _ _ _ _ c.args.p _ at _ _ c.self.invariant c.self.view_is b.got b.released c.trim.result c.in_ok-is_up.ensures.up c.trim.ensures.trimmed c.trim.ensures.not_up in
    (c.in_ok-is_up.ensures.up, t.0, t.1, b.got, got, t.2 ∙ ap (λ r. record v { cores = set v.cores c.args.p (Some (trimmed_core t.0 b.got r)) }) is)

pub returns-in_err-is_up-clause-happened : goal.returns-in_err-is_up-clause-happened
returns-in_err-is_up-clause-happened g c =
    let is : c.from_residual.result ≡ Err c.in_err-is_up.field-0.0 = search rules in
    told_not_running _ _ c.args.p (Event.Trim c.args.p) _ _ (λ n. n) (λ n. n) is c.in_err-is_up.ensures.not_running

pub returns-in_err-is_up-clause-keeps : goal.returns-in_err-is_up-clause-keeps
returns-in_err-is_up-clause-keeps g c = keeps_by _ _ refl refl refl

pub at-requires : goal.at-requires
at-requires g c = few _ _ _ _ c.args.p c.self.invariant c.self.view_is c.in_ok-is_up.ensures.there

pub bounds-bounds-requires : goal.bounds-bounds-requires
bounds-bounds-requires g c = subst (λ q. q < process_count c.self.inside.manager) (sym c.at.ensures) (known _ _ _ _ c.args.p c.self.invariant c.self.view_is c.in_ok-is_up.ensures.there)

pub returns-clause-keeps : goal.returns-clause-keeps
returns-clause-keeps g c =
    let at = lent_at _ c.args.p _ (here g.S.Stable.content (health_of g.S.Stable.is_clean g.S.Stable.failed) g.S.Stable.IsSound _ _ _ _ _ _ c.args.p _ c.self.invariant c.self.view_is c.in_ok-is_up.ensures.there) c.index_mut-member.ensures.value in
    let b = c.bounds-bounds.result in
    let t = has_trimmed g.S.Stable.content g.S.Stable.is_clean g.S.Stable.failed g.S.Stable.IsSound _ _ _ _ _ _ c.args.p _ at _ _ c.self.invariant c.self.view_is b.got b.released c.trim.result c.in_ok-is_up.ensures.up c.trim.ensures.trimmed c.trim.ensures.not_up in
    keeps_by _ _ (ap (λ (x : WorldState). x.manager) t.2) (ap (λ (x : WorldState). x.health) t.2) (ap (λ (x : WorldState). x.origins) t.2)
