use Rattle.std.proofs.Common.{length}
use Rattle.om_recover.specs.steps.Memory.{AreRemembered}
use Rattle.om_recover.proofs.SearchLemmas.{IsPassedTo}
use Rattle.om_recover.proofs.search.passes.pass.Given as goal

abbrev pub invariant-loop-p : goal.invariant-loop-p
invariant-loop-p g l = record {
  so_far : IsPassedTo (length l.state) (g.S.Shelf.rows l.shelf) l.state l.higher l.p l.fn.work.attempts l.work.attempts;
  remembered : AreRemembered (length l.state) (g.S.Shelf.rows l.shelf) l.higher l.memories.places;
}
