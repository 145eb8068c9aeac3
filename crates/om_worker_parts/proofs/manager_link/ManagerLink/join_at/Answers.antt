use Rattle.std.proofs.Common.{ℕ, subst, sym, Ok}
use Rattle.om_board.specs.Boards.{BoardState}
use Rattle.om_manager.specs.Rounds.{Joining}
use Rattle.om_worker_parts.proofs.ActLemmas.{joined_in}
use Rattle.om_worker_parts.proofs.manager_link.ManagerLink.join_at.Goals as goal

pub returns-clause-joined : goal.returns-clause-joined
returns-clause-joined g c =
    let over = c.in_ok-hand_over.ensures in let m = c.hand_over.new.locked.board.now.manager in
    let core = c.hand_over.new.node.core in let after = c.join.new.self.board.now in let gathered = c.in_ok-join.field-0 in let pid = c.args.self.now.pid in
    record {
      handed_over = m;
      over = over.over;
      gathered = gathered;
      joining = subst (λ (b : BoardState). Joining m pid core.round core.now.interval (Ok gathered) b.manager) (sym c.meet-front.ensures.same)
          (subst (λ (p : ℕ). Joining m p core.round core.now.interval (Ok gathered) after.manager) over.pid
          (joined_in m after.manager c.hand_over.new.self.pid c.round.result c.interval.result gathered core c.core-core.result.now
          c.core-core.ensures.core c.round.ensures c.interval.ensures.interval c.in_ok-join.ensures.answer));
    }
