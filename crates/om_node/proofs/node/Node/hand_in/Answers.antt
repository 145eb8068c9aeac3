use Rattle.std.proofs.Common.{subst, sym}
use Rattle.om_member.specs.Handed.{held_as}
use Rattle.om_process.specs.Claims.{HasEntry}
use Rattle.om_process.specs.Core.{CoreState, cluster_size}
use Rattle.om_process.specs.steps.Numbers.{made_entry}
use Rattle.om_node.specs.Nodes.{NodeState, TakesFrom}
use Rattle.om_node.proofs.OnWay.{node_output}
use Rattle.om_node.proofs.node.Node.hand_in.Goals as goal

pub hand_in-requires-clause-taken : goal.hand_in-requires-clause-taken
hand_in-requires-clause-taken g c =
    let taken = subst (λ (d : NodeState). TakesFrom g.O.ManagerAccess.Takes g.S.Stable.is_clean d.member) (sym c.self.view_is) c.requires.taken in
    λ made has.
    let kept = subst (λ (d : CoreState). HasEntry d.now.queues (cluster_size d.now) made.seq (made_entry made)) c.deref.ensures has in
    taken made.seq (held_as made) (λ always. node_output _ _ _ _ _ c.self.invariant.store made c.self.invariant.node (always c.self.invariant.store) kept)
