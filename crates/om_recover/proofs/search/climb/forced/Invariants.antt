use Rattle.om_recover.proofs.ClimbLemmas.{IsForcedTo}
use Rattle.om_recover.proofs.search.climb.forced.Given as goal

abbrev pub invariant-loop-p : goal.invariant-loop-p
invariant-loop-p g l = IsForcedTo (g.S.Shelf.rows l.shelf) l.state l.vec l.higher l.p
