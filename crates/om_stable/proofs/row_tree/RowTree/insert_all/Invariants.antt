use Rattle.std.proofs.Common.{◌≡◌, take}
use Rattle.om_stable.specs.Content.{with_all, bytes_of}
use Rattle.om_stable.proofs.row_tree.RowTree.insert_all.Given as goal

-- the records so far are there
abbrev pub invariant-loop-k : goal.invariant-loop-k
invariant-loop-k l = l.self ≡ with_all l.fn.self l.first (bytes_of (take l.k l.recs))
