use Rattle.std.proofs.Common.{refl}
use Rattle.om_node.proofs.OnWay.{node_offered, node_through}
use Rattle.om_node.proofs.node.Node.accept.Goals as goal

pub invariant_of-self : goal.invariant_of-self
invariant_of-self g c =
    let h = c.self.invariant in
    record { store = h.store; is = h.is; aloft = h.aloft; node = node_offered _ _ _ _ _ _ _ c.args.message.now c.accept.result (node_through _ _ _ _ _ _ _ _ c.deref_mut.ensures.value refl h.node) c.accept.ensures.answer c.accept.ensures.taken c.accept.ensures.refused }
