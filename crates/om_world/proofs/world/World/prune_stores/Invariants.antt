use Rattle.om_world.specs.steps.Pruning.{ArePruned}
use Rattle.om_world.proofs.world.World.prune_stores.Given as goal

abbrev pub invariant-loop-p : goal.invariant-loop-p
invariant-loop-p g l = ArePruned l.fn.self l.p l.self
