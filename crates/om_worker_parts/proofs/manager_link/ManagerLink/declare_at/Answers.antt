use Rattle.std.proofs.Common.{subst, sym, Ok}
use Rattle.om_board.specs.Boards.{BoardState}
use Rattle.om_manager.specs.Rounds.{Failing}
use Rattle.om_worker_parts.proofs.manager_link.ManagerLink.declare_at.Goals as goal

pub returns-clause-declared : goal.returns-clause-declared
returns-clause-declared g c =
    let link = c.args.self.now in
    record {
      gathered = c.in_ok-fail.field-0;
      failing = subst (λ (b : BoardState). Failing c.args.board.now.manager link.pid link.round (Ok c.in_ok-fail.field-0) b.manager)
          (sym c.meet-front.ensures.same) c.in_ok-fail.ensures.answer;
    }
