use Rattle.std.proofs.Common.{◌≡◌, ◌∙◌, ap, refl, subst, sym}
use Rattle.om_process.specs.Core.{CoreState}
use Rattle.om_process.specs.Flights.{Carries}
use Rattle.om_node.specs.Holding.{IsHeld}
use Rattle.om_node.specs.Nodes.{NodeState}
use Rattle.om_node.proofs.HoldLemmas.{held_launched, node_here}
use Rattle.om_node.proofs.node.Node.launch.Goals as goal

pub invariant_of-self-2 : goal.invariant_of-self-2
invariant_of-self-2 g c =
    let issued = c.in-Some-issue.ensures in
    let transaction = c.in_ok-transaction.transaction in
    let core : c.self.inside.core.value ≡ c.args.self.now.core = ap (λ (d : NodeState). d.core) c.self.view_is ∙ c.in_ok-transaction.ensures.core in
    let carries = subst (λ (d : CoreState). Carries c.args.k c.args.is_checkpoint_due d transaction.flight) (sym core) c.in_ok-transaction.ensures.carries in
    subst (IsHeld _ _ _ _) (sym c.replace.ensures.after)
    (held_launched _ _ _ _ _ _ c.in-Here.store.value transaction _ _ _ _ (node_here _ _ _ _ _ c.in-Here.store c.self.invariant c.in-Here.is) issued.ticket issued.stub carries refl)
