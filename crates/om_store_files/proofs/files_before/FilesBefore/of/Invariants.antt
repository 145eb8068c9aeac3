use Rattle.std.proofs.Common.{◌≡◌, length}
use Rattle.om_store_files.proofs.files_before.FilesBefore.of.Given as goal

abbrev pub invariant-loop-process : goal.invariant-loop-process
invariant-loop-process l = length l.stood.items ≡ l.process
