use Rattle.std.proofs.Common.{ap, ◌∙◌, refl, subst, sym}
use Rattle.om_process.specs.Core.{CoreState}
use Rattle.om_node.specs.Nodes.{IsKept}
use Rattle.om_node.proofs.HoldLemmas.{held_here}
use Rattle.om_node.proofs.OnWay.{back_in, node_back, node_through}
use Rattle.om_node.proofs.node.DownNode.come_back.Goals as goal

pub invariant_of-result : goal.invariant_of-result
invariant_of-result g c =
    let e = c.in-Ok.ensures in
    let kept = subst (IsKept _ _ _ _) (sym c.deref_mut.ensures.value) c.self.invariant in
    held_here _ _ _ _ _
    (node_through _ _ _ _ _ _ _ _ c.in_ok-core-in-Ok.ensures refl
    (node_back _ _ _ _ _ _ _ c.args.verdict.now.r kept e.own e.size e.used.clean e.used.sound e.back e.cut))

pub returns-in-Ok-clause-interval : goal.returns-in-Ok-clause-interval
returns-in-Ok-clause-interval g c = λ always.
    let e = c.in-Ok.ensures in
    let kept = subst (IsKept _ _ _ _) (sym c.deref_mut.ensures.value) c.self.invariant in
    ap (λ (d : CoreState). d.now.interval) c.in_ok-core-in-Ok.ensures
    ∙ back_in _ _ _ _ c.in-Ok.core _ _ c.args.verdict.now.r kept (always _) (always _) e.own e.size e.back
