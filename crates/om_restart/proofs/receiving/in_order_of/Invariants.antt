use Rattle.om_restart.specs.steps.Receiving.{AreReceivedBy}
use Rattle.om_restart.proofs.receiving.in_order_of.Given as goal

abbrev pub invariant-loop-at : goal.invariant-loop-at
invariant-loop-at l = AreReceivedBy l.at l.rows l.received.items
