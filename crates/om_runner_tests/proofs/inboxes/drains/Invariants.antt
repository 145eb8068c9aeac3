use Rattle.std.proofs.Common.{◌≡◌}
use Rattle.om_runner_tests.proofs.inboxes.drains.Given as goal

abbrev pub invariant-loop-ssn : goal.invariant-loop-ssn
invariant-loop-ssn g l = l.pass.line ≡ l.inbox
