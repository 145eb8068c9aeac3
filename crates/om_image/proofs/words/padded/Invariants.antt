use Rattle.std.proofs.Common.{◌≡◌, ◌++◌, replicate}
use Rattle.om_image.proofs.words.padded.Given as goal

abbrev pub invariant-loop : goal.invariant-loop
invariant-loop l = l.padded.items ≡ l.bytes ++ replicate l.counter 0
