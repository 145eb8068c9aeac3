use Rattle.om_node.proofs.HoldLemmas.{held_here, node_here}
use Rattle.om_node.proofs.OnWay.{node_flushed, node_refused, node_through}
use Rattle.om_node.proofs.node.Node.flush.Goals as goal

pub invariant_of-self : goal.invariant_of-self
invariant_of-self g c =
    let e = c.in_err-flush.ensures in
    let held = node_here _ _ _ _ _ c.in-Here.store c.self.invariant c.in-Here.is in
    held_here _ _ _ _ _
    (node_refused _ _ _ _ _ _ _ _ (node_through _ _ _ _ _ _ _ _ c.deref_mut.ensures.value c.deref_mut-2.ensures.value held) e.same e.used.clean e.used.sound e.refused)

pub invariant_of-self-2 : goal.invariant_of-self-2
invariant_of-self-2 g c =
    let e = c.in_ok-flush.ensures in
    let held = node_here _ _ _ _ _ c.in-Here.store c.self.invariant c.in-Here.is in
    held_here _ _ _ _ _
    (node_flushed _ _ _ _ _ _ _ _ (node_through _ _ _ _ _ _ _ _ c.deref_mut.ensures.value c.deref_mut-2.ensures.value held) e.core e.used.clean e.used.sound e.stored)
