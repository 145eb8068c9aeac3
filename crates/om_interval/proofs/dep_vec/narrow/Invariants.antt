use Rattle.std.proofs.Common.{◌≡◌, take}
use Rattle.om_interval.proofs.dep_vec.narrow.Given as goal

abbrev pub invariant-loop-place : goal.invariant-loop-place
invariant-loop-place l = take l.place l.numbers ≡ take l.place l.words
