use Rattle.om_board.proofs.PostingLemmas.{opens}
use Rattle.om_board.proofs.cell.reader_of.Goals as goal

pub split_as-requires-clause-rule : goal.split_as-requires-clause-rule
split_as-requires-clause-rule c = opens _ _
