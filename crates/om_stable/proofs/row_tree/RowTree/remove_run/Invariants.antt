use Rattle.om_stable.proofs.RecordLemmas.{RunGone}
use Rattle.om_stable.proofs.row_tree.RowTree.remove_run.Given as goal

abbrev pub invariant-loop-k : goal.invariant-loop-k
invariant-loop-k l = RunGone l.fn.self l.self l.first l.k
