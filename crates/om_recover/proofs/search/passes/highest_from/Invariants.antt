use Rattle.std.proofs.Common.{◌*◌, ◌-◌, length, sum}
use Rattle.om_interval.specs.Vectors.{IsBelow}
use Rattle.om_recover.specs.Recoverable.{IsRecoverable}
use Rattle.om_recover.specs.steps.Climbing.{ArePassed}
use Rattle.om_recover.specs.steps.Memory.{AreRemembered}
use Rattle.om_recover.proofs.ClimbLemmas.{left_to_look}
use Rattle.om_recover.proofs.search.passes.highest_from.Given as goal

abbrev pub invariant-loop-raised : goal.invariant-loop-raised
invariant-loop-raised g l = record {
  recoverable : IsRecoverable (length l.state) (g.S.Shelf.rows l.shelf) l.raised;
  above : IsBelow l.state l.raised;
  counted : ArePassed (length l.state) (g.S.Shelf.rows l.shelf) l.state l.raised (length l.state * (sum l.raised - sum l.state)) l.fn.work.attempts l.work.attempts;
  remembered : AreRemembered (length l.state) (g.S.Shelf.rows l.shelf) l.raised l.memories.places;
}

abbrev pub decreases-loop-raised : goal.decreases-loop-raised
decreases-loop-raised g l = left_to_look (length l.state) l.raised
