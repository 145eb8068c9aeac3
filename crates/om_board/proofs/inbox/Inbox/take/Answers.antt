use Rattle.om_board.proofs.OrderLemmas.{gets, left}
use Rattle.om_board.proofs.inbox.Inbox.take.Goals as goal

pub try_recv_as-requires-clause-rule : goal.try_recv_as-requires-clause-rule
try_recv_as-requires-clause-rule g c = (gets _ _ c.pass.invariant.1, left _ _ c.pass.invariant.1)
