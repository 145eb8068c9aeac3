use Rattle.om_board.proofs.PostingLemmas.{loads}
use Rattle.om_board.proofs.cell.read_words.Goals as goal

pub read_as-requires-clause-rule : goal.read_as-requires-clause-rule
read_as-requires-clause-rule g c = loads _ _ c.requires.reads
