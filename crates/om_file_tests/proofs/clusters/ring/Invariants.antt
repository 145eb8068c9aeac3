use Rattle.std.proofs.Common.{◌≡◌, length}
use Rattle.om_file_tests.proofs.clusters.ring.Given as goal

abbrev pub invariant-loop : goal.invariant-loop
invariant-loop l = length l.images.items ≡ l.counter
