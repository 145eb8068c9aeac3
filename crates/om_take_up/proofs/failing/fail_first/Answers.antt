use Rattle.std.proofs.Common.{subst, Ok}
use Rattle.om_manager.specs.Rounds.{Failing}
use Rattle.om_take_up.proofs.FailingLemmas.{none_failed, one_failed}
use Rattle.om_take_up.proofs.failing.fail_first.Goals as goal

pub loop-p-init : goal.loop-p-init
loop-p-init c = none_failed c.args.manager.now c.recovery.ensures.sound c.requires.before

pub loop-p-preserved : goal.loop-p-preserved
loop-p-preserved c =
    one_failed c.args.manager.now c.loop-p.manager c.fail.new.self c.loop-p.p c.args.count c.in_ok-fail.field-0 c.fail.ensures.sound c.loop-p.invariant c.loop-p-test.true c.requires.few
    (subst (λ q. Failing c.loop-p.manager q 0 (Ok c.in_ok-fail.field-0) c.fail.new.self) c.at.ensures (subst (λ a. Failing c.loop-p.manager c.at.result 0 a c.fail.new.self) c.in_ok-fail.was c.fail.ensures.answer))
