use Rattle.om_world.proofs.Pruning.{after_pruned}
use Rattle.om_world.proofs.world.World.prune_manager.Goals as goal

pub invariant_of-self : goal.invariant_of-self
invariant_of-self g c = after_pruned _ _ _ c.prune.new.self c.self.invariant (record { rows = c.prune.ensures.rows; others = c.prune.ensures.others }) c.prune.ensures.sound
