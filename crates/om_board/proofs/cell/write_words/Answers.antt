use Rattle.om_board.proofs.PostingLemmas.{stores_as}
use Rattle.om_board.proofs.cell.write_words.Goals as goal

pub write_as-requires-clause-rule : goal.write_as-requires-clause-rule
write_as-requires-clause-rule g c =
    let may = c.requires.may in
    stores_as _ _ may.last _ may.writes may.ends may.log may.words may.grows
