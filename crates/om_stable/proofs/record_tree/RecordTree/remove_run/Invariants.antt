use Rattle.om_stable.proofs.RecordLemmas.{RunGone}
use Rattle.om_stable.proofs.record_tree.RecordTree.remove_run.Given as goal

abbrev pub invariant-loop-k : goal.invariant-loop-k
invariant-loop-k l = RunGone l.fn.self l.self l.first l.k
