use Rattle.om_board.proofs.PostingLemmas.{meets}
use Rattle.om_board.proofs.cell.compare.Goals as goal

pub read_as-requires-clause-rule : goal.read_as-requires-clause-rule
read_as-requires-clause-rule g c = meets _ _ c.requires.writes
