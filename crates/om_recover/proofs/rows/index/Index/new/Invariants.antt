use Rattle.om_recover.specs.steps.Held.{held, AreIndexed}
use Rattle.om_recover.proofs.FirstLemmas.{AreFirstTo}
use Rattle.om_recover.proofs.rows.index.Index.new.Given as goal

abbrev pub invariant-loop-p : goal.invariant-loop-p
invariant-loop-p l = record {
  indexed : AreIndexed l.trees;
  first : AreFirstTo l.n l.p (held l.trees);
}
