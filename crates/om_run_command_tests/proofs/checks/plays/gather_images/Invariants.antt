use Rattle.std.proofs.Common.{◌≡◌, length}
use Rattle.om_run_command_tests.proofs.checks.plays.gather_images.Given as goal

abbrev pub invariant-loop : goal.invariant-loop
invariant-loop l = length l.images.items ≡ l.counter
