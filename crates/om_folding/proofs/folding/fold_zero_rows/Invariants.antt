use Rattle.std.proofs.Common.{◌≡◌, map}
use Rattle.std.specs.List.{flat_map, range_with_len}
use Rattle.om_folding.specs.Folding.{folded_line}
use Rattle.om_folding.proofs.folding.fold_zero_rows.Given as goal

-- what stands for the lines so far
abbrev pub invariant-loop-k : goal.invariant-loop-k
invariant-loop-k l = l.short.items ≡ flat_map (folded_line (map (λ part. part.now) l.parts.items)) (range_with_len 0 l.k)
