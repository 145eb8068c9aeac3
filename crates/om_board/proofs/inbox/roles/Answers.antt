use Rattle.om_board.proofs.OrderLemmas.{forks}
use Rattle.om_board.proofs.inbox.roles.Goals as goal

pub another-requires-clause-rule : goal.another-requires-clause-rule
another-requires-clause-rule g c = forks _ _ g.J.Pair.from g.J.Pair.to c.requires.first
