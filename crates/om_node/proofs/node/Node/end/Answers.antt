use Rattle.std.proofs.Common.{◌≡◌, subst}
use Rattle.std.specs.Prelude.{IsTrue}
use Rattle.om_format.specs.Queues.{queue_end}
use Rattle.om_process.specs.Core.{CoreState, move_of, status_of}
use Rattle.om_process.specs.Frames.{outputs_of}
use Rattle.om_node.specs.Ends.{IsWholeRun}
use Rattle.om_node.specs.Nodes.{NodeState}
use Rattle.om_node.proofs.HoldLemmas.{node_here}
use Rattle.om_node.proofs.OnWay.{node_whole}
use Rattle.om_node.proofs.node.Node.end.Goals as goal

pub returns-clause-whole : goal.returns-clause-whole
returns-clause-whole g c = λ clean.
    let told = subst (λ (d : CoreState). c.status-status.result ≡ status_of (move_of d)) c.deref.ensures c.status-status.ensures in
    subst (λ (d : NodeState). IsWholeRun d.member.program d.member.own d.member.n c.status-status.result (queue_end (outputs_of d.core))) c.self.view_is
    (node_whole _ _ _ _ _ _ _ (node_here _ _ _ _ _ c.in-Here.store c.self.invariant c.in-Here.is) (subst (λ s. IsTrue (g.S.Stable.is_clean s)) c.into_inner.ensures clean) told)
