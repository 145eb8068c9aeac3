use Rattle.std.proofs.Common.{◌≡◌, subst, sym, Err, rules, refl}
use Rattle.om_world.specs.declared.event.Event.{Event}
use Rattle.om_world.specs.Failures.{IsToComeBack}
use Rattle.om_world.specs.Happened.{Happened}
use Rattle.om_world.specs.Played.{IsCounted}
use Rattle.om_world.specs.steps.Moves.{answered, refusal_of_replay}
use Rattle.om_world.specs.steps.Returning.{IsDue}
use Rattle.om_world.proofs.Resuming.{back_counted, back_happened, back_keeps, back_stopped, stays_keeps}
use Rattle.om_world.proofs.Keeping.{keeps_by}
use Rattle.om_world.proofs.world.World.resume.Goals as goal

pub returns-in_err-interval-clause-happened : goal.returns-in_err-interval-clause-happened
returns-in_err-interval-clause-happened g c = λ known.
    let w = c.args.self.now in let v = c.bring_back.new.self in let fault = c.in_err-interval.field-0.0 in
    let due : IsToComeBack w c.args.p = subst (IsDue w c.args.p) c.if-not-back.false c.in_ok-back.ensures.due in
    let is : c.from_residual-in_err-interval.result ≡ Err (refusal_of_replay fault) = search rules in
    subst (λ r. Happened w (Event.Resume c.args.p) (answered r) v) (sym is) (back_stopped w c.leave.new.self v c.args.p fault due c.leave.ensures c.in_err-interval.ensures.back known)

pub returns-clause-happened : goal.returns-clause-happened
returns-clause-happened g c = λ known.
    let w = c.args.self.now in
    let due : IsToComeBack w c.args.p = subst (IsDue w c.args.p) c.if-not-back.false c.in_ok-back.ensures.due in
    back_happened w c.leave.new.self c.bring_back.new.self c.args.p c.in_ok-interval.interval c.in_ok-interval.inc due c.in_ok-back.ensures.beyond c.leave.ensures c.in_ok-interval.ensures.back known

pub returns-in_err-interval-clause-counted : goal.returns-in_err-interval-clause-counted
returns-in_err-interval-clause-counted g c =
    let w = c.args.self.now in let v = c.bring_back.new.self in let fault = c.in_err-interval.field-0.0 in
    let due : IsToComeBack w c.args.p = subst (IsDue w c.args.p) c.if-not-back.false c.in_ok-back.ensures.due in
    let is : c.from_residual-in_err-interval.result ≡ Err (refusal_of_replay fault) = search rules in
    subst (λ r. IsCounted w v (answered r)) (sym is) (back_counted w c.leave.new.self v c.args.p fault due c.leave.ensures c.in_err-interval.ensures.back)

pub returns-in_err-interval-clause-keeps : goal.returns-in_err-interval-clause-keeps
returns-in_err-interval-clause-keeps g c =
    let w = c.args.self.now in
    let due : IsToComeBack w c.args.p = subst (IsDue w c.args.p) c.if-not-back.false c.in_ok-back.ensures.due in
    stays_keeps w c.leave.new.self c.bring_back.new.self c.args.p c.in_err-interval.field-0.0 due c.leave.ensures c.in_err-interval.ensures.back

pub returns-clause-keeps : goal.returns-clause-keeps
returns-clause-keeps g c =
    let w = c.args.self.now in
    let due : IsToComeBack w c.args.p = subst (IsDue w c.args.p) c.if-not-back.false c.in_ok-back.ensures.due in
    back_keeps w c.leave.new.self c.bring_back.new.self c.args.p c.in_ok-interval.interval c.in_ok-interval.inc due c.leave.ensures c.in_ok-interval.ensures.back

pub returns-in_err-back-clause-happened : goal.returns-in_err-back-clause-happened
returns-in_err-back-clause-happened g c = λ known.
    let is : c.from_residual.result ≡ Err c.in_err-back.field-0.0 = search rules in
    subst (λ r. Happened c.args.self.now (Event.Resume c.args.p) (answered r) c.args.self.now) (sym is) (c.in_err-back.ensures.refused known)

pub returns-in_err-back-clause-keeps : goal.returns-in_err-back-clause-keeps
returns-in_err-back-clause-keeps g c = keeps_by _ _ refl refl refl

pub go_on-requires-clause-there : goal.go_on-requires-clause-there
go_on-requires-clause-there g c = c.in_ok-back.ensures.there

pub leave-requires : goal.leave-requires
leave-requires g c = c.in_ok-back.ensures.there
