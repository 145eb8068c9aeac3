use Rattle.std.proofs.Common.{◌≡◌, ◌++◌}
use Rattle.std.specs.FinMap.{entries}
use Rattle.om_stable.specs.Content.{rows_of}
use Rattle.om_stable.proofs.row_tree.RowTree.all.Given as goal

-- what was found and what is left are all that is held
abbrev pub invariant-loop-x : goal.invariant-loop-x
invariant-loop-x l = rows_of l.found.items ++ rows_of l.x-iterator ≡ entries l.self
