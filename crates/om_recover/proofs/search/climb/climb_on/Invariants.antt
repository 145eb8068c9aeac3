use Rattle.std.proofs.Common.{length}
use Rattle.om_recover.specs.steps.Memory.{AreRemembered}
use Rattle.om_recover.specs.steps.Climbing.{IsClimbing, IsPassing, IsUnderWay, without_newest}
use Rattle.om_recover.proofs.ClimbLemmas.{left_to_look}
use Rattle.om_recover.proofs.search.climb.climb_on.Given as goal

abbrev pub invariant-loop-q : goal.invariant-loop-q
invariant-loop-q g l = record {
  climbing : IsClimbing (length l.state) (g.S.Shelf.rows l.shelf) l.state l.fn.pid l.x l.reached l.looked;
  passing : IsPassing (length l.state) (g.S.Shelf.rows l.shelf) l.state l.fn.pid l.x l.reached l.passed;
  remembered : AreRemembered (length l.state) (g.S.Shelf.rows l.shelf) l.state l.memories.places;
  under_way : IsUnderWay (g.S.Shelf.rows l.shelf) l.state l.fn.pid l.x l.looked (without_newest l.fn.work.attempts) l.work.attempts;
}

abbrev pub decreases-loop-q : goal.decreases-loop-q
decreases-loop-q g l = left_to_look (length l.state) l.looked
