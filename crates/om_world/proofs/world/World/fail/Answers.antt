use Rattle.std.proofs.Common.{◌≡◌, ◌∙◌, ◌<◌, ◌≤◌, Err, false, refl, rules, sym, subst}
use Rattle.om_world.specs.declared.event.Event.{Event}
use Rattle.om_world.specs.Failures.{IsToDeclare, taken_down}
use Rattle.om_world.specs.Happened.{Happened}
use Rattle.om_world.specs.World.{WorldState}
use Rattle.om_world.specs.steps.Moves.{answered, refusal_of_failure}
use Rattle.om_world.proofs.Declared.{down_keeps, due_down, due_undeclared, fail_happened, fail_keeps, fail_refused, in_undeclared, refused_keeps}
use Rattle.om_world.proofs.Keeping.{keeps_by}
use Rattle.om_world.proofs.Standing.{size_seen}
use Rattle.om_world.proofs.world.World.fail.Goals as goal

pub returns-in_err-told-in-New-clause-happened : goal.returns-in_err-told-in-New-clause-happened
returns-in_err-told-in-New-clause-happened g c = λ known.
    let is : c.from_residual.result ≡ Err (refusal_of_failure c.in_err-told-in-New.field-0.0) = search rules in
    let due = subst (λ (w : WorldState). IsToDeclare w c.args.p) (sym c.self.view_is) c.in-New.ensures in
    let gone = subst (λ (w : WorldState). c.take_down-in-New.new.self ≡ taken_down w c.args.p false) (sym c.self.view_is) c.take_down-in-New.ensures in
    subst (λ (w : WorldState). Happened w (Event.Fail c.args.p) (answered c.from_residual.result) c.declare.new.self) c.self.view_is
    (fail_refused _ _ _ c.take_down-in-New.new.self c.declare.new.self c.args.p c.in_err-told-in-New.field-0.0 c.from_residual.result c.self.invariant due gone c.in_err-told-in-New.ensures is known)

pub returns-in_ok-told-in-New-clause-happened : goal.returns-in_ok-told-in-New-clause-happened
returns-in_ok-told-in-New-clause-happened g c = λ known. fail_happened c.args.self.now c.take_down-in-New.new.self c.declare.new.self c.args.p c.in_ok-told-in-New.told c.in-New.ensures c.take_down-in-New.ensures c.in_ok-told-in-New.ensures known

pub returns-in_ok-told-in-New-clause-keeps : goal.returns-in_ok-told-in-New-clause-keeps
returns-in_ok-told-in-New-clause-keeps g c = fail_keeps c.args.self.now c.take_down-in-New.new.self c.declare.new.self c.args.p c.in_ok-told-in-New.told c.take_down-in-New.ensures c.in_ok-told-in-New.ensures

pub returns-then-p-len-clause-happened : goal.returns-then-p-len-clause-happened
returns-then-p-len-clause-happened g c = λ known. (subst (λ n. n ≤ c.args.p) (size_seen _ _ _ _ c.self.view_is refl (c.len.ensures ∙ c.self.inside.images.ok.0)) c.if-p-len.true, refl)

pub returns-then-p-len-clause-keeps : goal.returns-then-p-len-clause-keeps
returns-then-p-len-clause-keeps g c = keeps_by _ _ refl refl refl

pub failure-requires : goal.failure-requires
failure-requires g c = subst (λ n. c.args.p < n) (size_seen _ _ _ _ c.self.view_is refl (c.len.ensures ∙ c.self.inside.images.ok.0)) c.if-p-len.false

pub take_down-requires-clause-there : goal.take_down-requires-clause-there
take_down-requires-clause-there g c = subst (λ n. c.args.p < n) (size_seen _ _ _ _ c.self.view_is refl (c.len.ensures ∙ c.self.inside.images.ok.0)) c.if-p-len.false

pub take_down-requires-clause-undeclared : goal.take_down-requires-clause-undeclared
take_down-requires-clause-undeclared g c = in_undeclared _ c.in-Settled.ensures.0

pub take_down-requires-in-New-clause-there : goal.take_down-requires-in-New-clause-there
take_down-requires-in-New-clause-there g c = subst (λ n. c.args.p < n) (size_seen _ _ _ _ c.self.view_is refl (c.len.ensures ∙ c.self.inside.images.ok.0)) c.if-p-len.false

pub take_down-requires-in-New-clause-undeclared : goal.take_down-requires-in-New-clause-undeclared
take_down-requires-in-New-clause-undeclared g c = due_undeclared _ c.args.p c.in-New.ensures

pub declare-requires : goal.declare-requires
declare-requires g c = due_down _ _ c.args.p c.in-New.ensures c.take_down-in-New.ensures

pub returns-in_err-told-in-New-clause-keeps : goal.returns-in_err-told-in-New-clause-keeps
returns-in_err-told-in-New-clause-keeps g c = refused_keeps _ _ _ c.args.p _ c.take_down-in-New.ensures c.in_err-told-in-New.ensures

pub returns-in-Known-clause-happened : goal.returns-in-Known-clause-happened
returns-in-Known-clause-happened g c = λ known. (c.in-Known.ensures, refl)

pub returns-in-Known-clause-keeps : goal.returns-in-Known-clause-keeps
returns-in-Known-clause-keeps g c = keeps_by _ _ refl refl refl

pub returns-in-Settled-clause-happened : goal.returns-in-Settled-clause-happened
returns-in-Settled-clause-happened g c = λ known. (c.in-Settled.ensures.0, c.in-Settled.ensures.1, c.take_down.ensures)

pub returns-in-Settled-clause-keeps : goal.returns-in-Settled-clause-keeps
returns-in-Settled-clause-keeps g c = down_keeps _ _ c.args.p c.take_down.ensures
