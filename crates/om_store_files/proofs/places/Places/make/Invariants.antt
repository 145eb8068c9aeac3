use Rattle.std.proofs.Common.{◌≡◌, length}
use Rattle.om_store_files.proofs.places.Places.make.Given as goal

abbrev pub invariant-loop-process : goal.invariant-loop-process
invariant-loop-process l = length l.made.items ≡ l.process
