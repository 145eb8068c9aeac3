use Rattle.std.proofs.Common.{◌≡◌, ap, ◌∙◌, subst}
use Rattle.om_board.specs.Boards.{BoardState}
use Rattle.om_manager.specs.State.{ManagerState}
use Rattle.om_worker_parts.specs.Acts.{IsVerdictOf}
use Rattle.om_worker_parts.proofs.manager_link.ManagerLink.hear_at.Goals as goal

pub returns-clause-heard : goal.returns-clause-heard
returns-clause-heard g c =
    let v = c.verdict-verdict in
    let manager : c.manager-manager.result.now ≡ c.args.board.now.manager =
    c.manager-manager.ensures.manager ∙ ap (λ (b : BoardState). b.manager) c.meet-pass.ensures.same in
    record {
      starts = c.in_ok-starts.ensures ∙ c.starts.ensures ∙ ap (λ (m : ManagerState). m.starts) manager;
      verdict = subst (λ (m : ManagerState). IsVerdictOf m c.args.self.now.pid v.result) manager
          (record { round = v.ensures.round; inc = v.ensures.inc; r = v.ensures.r; back = v.ensures.back });
    }
