use Rattle.om_board.proofs.OrderLemmas.{merges}
use Rattle.om_board.proofs.inbox.Inbox.settle.Goals as goal

pub absorb-requires-clause-rule : goal.absorb-requires-clause-rule
absorb-requires-clause-rule g c = merges _ _ _ _ c.pass.invariant.1 c.put.invariant.1
