use Rattle.om_board.proofs.FrontLemmas.{intervals_fit}
use Rattle.om_board.proofs.front.Front.from_words.Goals as goal

pub from_words-requires-clause-fit : goal.from_words-requires-clause-fit
from_words-requires-clause-fit c = intervals_fit c.args.words.now _ c.requires.spelled
