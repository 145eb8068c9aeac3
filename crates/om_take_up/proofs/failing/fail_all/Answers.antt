use Rattle.std.proofs.Common.{◌-◌, length, ap, subst, arith, Ok}
use Rattle.om_manager.specs.Rounds.{Failing}
use Rattle.om_take_up.proofs.FailingLemmas.{last_failed}
use Rattle.om_take_up.proofs.failing.fail_all.Goals as goal

pub returns-clause-failed : goal.returns-clause-failed
returns-clause-failed c =
    let last = c.n-last.result - 1 in
    let many = c.n-last.ensures.places in let some = c.n-last.ensures.some in
    let same = ap length c.recovery.ensures.recovery in
    last_failed c.args.manager.now c.fail_first.new.manager c.fail.new.self last c.in_ok-fail.field-0 c.in_ok-fail_first.ensures.failed (omega arith)
    (subst (λ q. Failing c.fail_first.new.manager q 0 (Ok c.in_ok-fail.field-0) c.fail.new.self) c.at.ensures (subst (λ a. Failing c.fail_first.new.manager c.at.result 0 a c.fail.new.self) c.in_ok-fail.was c.fail.ensures.answer))
