use Rattle.std.proofs.Common.{sym, subst, ◌<◌, All, arith}
use Rattle.om_board.proofs.FrontLemmas.{are_words}
use Rattle.om_board.proofs.front.Front.to_words.Goals as goal

pub returns-clause-spelled : goal.returns-clause-spelled
returns-clause-spelled c = are_words _ _ _ (omega arith) c.copy_from_slice.ensures.len (subst (All (λ word. word < 4294967296)) (sym c.copy_from_slice.ensures.after) c.to_words.ensures.fit)
