use Rattle.std.proofs.Common.{◌≡◌, ◌++◌}
use Rattle.om_stable.specs.Content.{rows_of, between}
use Rattle.om_stable.proofs.record_tree.RecordTree.between.Given as goal

-- what was found and what is left are all that is to be found
abbrev pub invariant-loop-x : goal.invariant-loop-x
invariant-loop-x l = rows_of l.found.items ++ rows_of l.x-iterator ≡ between l.self l.after l.to
