use Rattle.std.proofs.Common.{ap, ◌∙◌, subst, length}
use Rattle.std.specs.Prelude.{◌↔◌, IsTrue}
use Rattle.om_manager.specs.State.{process_count}
use Rattle.om_board.specs.Boards.{BoardState, AreAllQuiet}
use Rattle.om_board.proofs.board.Board.quiet.Goals as goal

pub returns-clause-all : goal.returns-clause-all
returns-clause-all g c =
    let all = c.are_all_quiet.result in
    let inside = c.self-2.inside in
    let n_is = c.n.ensures.places ∙ ap length c.recovery.ensures.recovery in
    let told = subst (λ n. IsTrue all ↔ AreAllQuiet n inside.quiet) n_is c.are_all_quiet.ensures in
    subst (λ (b : BoardState). IsTrue all ↔ AreAllQuiet (process_count b.manager) b.quiet) c.self-2.view_is told
