use Rattle.std.proofs.Common.{◌≡◌, length}
use Rattle.om_world_tests.proofs.orders.images.Given as goal

abbrev pub invariant-loop : goal.invariant-loop
invariant-loop l = length l.images.items ≡ l.counter
