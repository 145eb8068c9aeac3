use Rattle.std.proofs.Common.{rules}
use Rattle.om_board.proofs.PostingLemmas.{begins}
use Rattle.om_board.proofs.frontier.Blank.new.Goals as goal

pub ruled-requires : goal.ruled-requires
ruled-requires c = (search rules, (search rules, begins))
