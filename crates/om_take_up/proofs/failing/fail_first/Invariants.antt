use Rattle.om_take_up.specs.steps.Failing.{AreFailed}
use Rattle.om_take_up.proofs.failing.fail_first.Given as goal

abbrev pub invariant-loop-p : goal.invariant-loop-p
invariant-loop-p l = AreFailed l.fn.manager l.p l.manager
