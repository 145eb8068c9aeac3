use Rattle.std.proofs.Common.{ℕ, subst}
use Rattle.std.specs.Prelude.{IfSome}
use Rattle.om_worker_parts.specs.Acts.{AreLimits, IsStanding}
use Rattle.om_worker_parts.proofs.ActLemmas.{asked_where, same_where_none}
use Rattle.om_worker_parts.proofs.manager_link.ManagerLink.meet_at.Goals as goal

pub returns-clause-met : goal.returns-clause-met
returns-clause-met g c =
    let over = c.in_ok-hand_over.ensures in let pruned = c.prune-limits in let asked = c.ask-standing in
    let board = pruned.new.locked.board.now in let manager_link = c.args.self.now in
    record {
      handed_over = c.hand_over.new.locked.board.now.manager;
      over = over.over;
      asked = board;
      with_checkpoint = asked_where _ _ _ pruned.ensures.asked c.requires.checkpoint;
      pruned = pruned.ensures.pruned;
      limits_are = subst (λ (p : ℕ). IfSome pruned.result (λ l. AreLimits board.manager p l)) over.pid pruned.ensures.limits;
      unpruned = same_where_none pruned.result board c.hand_over.new.locked.board.now pruned.ensures.unpruned;
      stands = subst (λ (p : ℕ). IsStanding board p manager_link.round c.args.ended asked.result asked.new.locked.board.now) over.pid
          (subst (λ (r : ℕ). IsStanding board c.hand_over.new.self.pid r c.args.ended asked.result asked.new.locked.board.now) over.round asked.ensures);
    }
