use Rattle.om_board.proofs.PostingLemmas.{twins}
use Rattle.om_board.proofs.cell.copy_of.Goals as goal

pub split_as-requires-clause-rule : goal.split_as-requires-clause-rule
split_as-requires-clause-rule c = twins _ _ c.requires.reads
