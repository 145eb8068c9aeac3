use Rattle.std.proofs.Common.{refl}
use Rattle.om_node.proofs.OnWay.{node_ran, node_through}
use Rattle.om_node.proofs.node.Node.run.Goals as goal

pub invariant_of-self : goal.invariant_of-self
invariant_of-self g c =
    let h = c.self.invariant in
    record { store = h.store; is = h.is; aloft = h.aloft; node = node_ran _ _ _ _ _ _ _ _ (node_through _ _ _ _ _ _ _ _ c.deref_mut.ensures.value refl h.node) c.run.ensures.at_most c.run.ensures.rest c.run.ensures.size }

pub invariant_of-self-2 : goal.invariant_of-self-2
invariant_of-self-2 g c =
    let h = c.self.invariant in
    record { store = h.store; is = h.is; aloft = h.aloft; node = node_ran _ _ _ _ _ _ _ _ (node_through _ _ _ _ _ _ _ _ c.deref_mut.ensures.value refl h.node) c.run.ensures.at_most c.run.ensures.rest c.run.ensures.size }
