use Rattle.om_board.proofs.OrderLemmas.{begins}
use Rattle.om_board.proofs.inbox.Inbox.new.Goals as goal

pub bounded_with-requires-clause-rule : goal.bounded_with-requires-clause-rule
bounded_with-requires-clause-rule c = begins
