use Rattle.om_world.specs.steps.Restarting.{HasToldStores}
use Rattle.om_world.proofs.stopped.Stopped.tell_stores.Given as goal

abbrev pub invariant-loop-p : goal.invariant-loop-p
invariant-loop-p g l = HasToldStores l.fn.self l.fn.manager l.p l.self l.manager
