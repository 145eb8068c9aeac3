use Rattle.om_recover.proofs.DroppingLemmas.{ArePrunedBelow}
use Rattle.om_recover.proofs.rows.dropping.prune_entries.Given as goal

abbrev pub invariant-loop-p : goal.invariant-loop-p
invariant-loop-p g l = record { pruned : ArePrunedBelow l.fn.entries.entries l.entries.entries l.from l.p }
