use Rattle.std.proofs.Common.{ℕ, ◌∙◌, subst, sym}
use Rattle.om_process.specs.Core.{CoreState}
use Rattle.om_process.specs.Stores.{flushed}
use Rattle.om_worker_parts.specs.Acts.{HasJoined}
use Rattle.om_report.specs.Locks.{UnderLock}
use Rattle.om_worker_parts.proofs.ActLemmas.{still_process}
use Rattle.om_worker.proofs.worker.Worker.enter.Goals as goal

pub join-requires : goal.join-requires
join-requires g c =
    let w = c.args.self.now in
    still_process _ _ _ _ w.links.ends.own w.manager_link.pid c.args.node.now.member c.flush.new.node.member c.in_ok-flush.ensures.member (sym w.linked) c.requires.process

pub returns-clause-joined : goal.returns-clause-joined
returns-clause-joined g c =
    let w = c.args.self.now in let n = g.K.Naming.cell.n in let new = c.join.new.node.core in
    subst (λ (p : ℕ). UnderLock n (λ before after. HasJoined before.manager p (flushed c.args.node.now.core) after.manager new)) (sym (c.requires.process.own_is ∙ w.linked))
    (subst (λ (d : CoreState). UnderLock n (λ before after. HasJoined before.manager w.manager_link.pid d after.manager new)) c.in_ok-flush.ensures.stored c.in_ok-is_finished.ensures.joined)
