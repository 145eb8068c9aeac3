use Rattle.std.proofs.Common.{ℕ, List, refl, sym, subst, length}
use Rattle.om_recover.specs.Recoverable.{maximum_of}
use Rattle.om_recover.specs.steps.Climbing.{IsClimbing}
use Rattle.om_recover.proofs.ClimbLemmas.{climbing_start}
use Rattle.om_recover.proofs.MemoryLemmas.{climbing_resumed, waits_still}
use Rattle.om_recover.proofs.search.climb.begin_known.Goals as goal

pub returns-in_default : goal.returns-in_default
returns-in_default g c = waits_still _ _ _ _ _ _ c.requires.lawful c.requires.state c.requires.remembered c.requires.known c.in_default.ensures

pub returns-then-memory-x : goal.returns-then-memory-x
returns-then-memory-x g c =
    subst (λ (reached : List ℕ). IsClimbing (length c.args.state.now) (g.S.Shelf.rows c.args.shelf.now) c.args.state.now c.args.pid c.args.x reached c.args.state.now) (sym c.maximum.ensures)
    (subst (λ x. IsClimbing (length c.args.state.now) (g.S.Shelf.rows c.args.shelf.now) c.args.state.now c.args.pid x (maximum_of c.args.memory.now.reached c.args.state.now) c.args.state.now) c.if-memory-x.true
    (climbing_resumed _ _ _ _ _ c.requires.lawful c.requires.state c.requires.process c.requires.remembered))

pub returns : goal.returns
returns g c =
    subst (λ (reached : List ℕ). IsClimbing (length c.args.state.now) (g.S.Shelf.rows c.args.shelf.now) c.args.state.now c.args.pid c.args.x reached c.args.state.now) (sym c.raised_to.ensures)
    (climbing_start _ _ _ _ _ refl c.requires.state c.requires.process c.requires.start c.requires.above)
