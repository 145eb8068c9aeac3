use Rattle.om_board.proofs.PostingLemmas.{shows}
use Rattle.om_board.proofs.cell.show.Goals as goal

pub join_as-requires-clause-rule : goal.join_as-requires-clause-rule
join_as-requires-clause-rule c = shows _ _ _ _
