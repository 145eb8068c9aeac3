use Rattle.om_recover.proofs.MemoryLemmas.{IsMaximumTo}
use Rattle.om_recover.proofs.search.climb.maximum.Given as goal

abbrev pub invariant-loop-p : goal.invariant-loop-p
invariant-loop-p l = IsMaximumTo l.one l.other l.greater l.p
