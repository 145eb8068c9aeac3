use Rattle.om_node.proofs.HoldLemmas.{request_flown}
use Rattle.om_node.proofs.flying.WriteRequest.fly.Goals as goal

pub invariant_of-result : goal.invariant_of-result
invariant_of-result g c =
    let stored = c.store_transaction-told.ensures in
    request_flown _ _ _ _ _ _ _ _ _ _ c.self.invariant c.deref_mut.ensures.value stored.used stored.put stored.refused
