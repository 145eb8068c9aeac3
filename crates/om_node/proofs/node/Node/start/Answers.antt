use Rattle.std.proofs.Common.{◌≡◌, ◌∙◌, [], refl, subst, sym}
use Rattle.std.specs.Prelude.{IsTrue}
use Rattle.om_process.specs.Starting.{started_core}
use Rattle.om_process.specs.Turns.{Along}
use Rattle.om_stable.specs.Content.{nothing}
use Rattle.om_node.proofs.HoldLemmas.{held_here}
use Rattle.om_node.proofs.OnWay.{node_started, node_through}
use Rattle.om_node.proofs.node.Node.start.Goals as goal

pub invariant_of-result : goal.invariant_of-result
invariant_of-result g c =
    let e = c.in_ok-core.ensures in
    let i = c.args.image.now in
    let same : c.deref_mut.result.now ≡ c.args.store = c.deref_mut.ensures.value ∙ c.in_ok-store.ensures in
    let sound = subst (λ s. IsTrue (g.S.Stable.is_clean s) → g.S.Stable.IsSound s) (sym same) c.requires.sound in
    let empty = subst (λ s. IsTrue (g.S.Stable.is_clean s) → g.S.Stable.content s ≡ nothing) (sym same) c.requires.empty in
    let started = subst (λ x. c.in_ok-core.core ≡ started_core (record { image = x; size = i.size; ext = i.ext }) c.args.pid c.args.n) c.deref.ensures.value e.started in
    let along = subst (λ x. Along (record { image = x; size = i.size; ext = i.ext }) c.args.pid c.args.n [] 0 c.in_ok-core.core.now) c.deref.ensures.value e.along in
    let node = node_through _ _ _ _ _ _ _ _ c.in_ok-core-2.ensures refl
    (node_started _ _ _ _ _ c.deref_mut.result.now _ started along sound empty e.used.clean e.used.sound e.stored) in
    held_here _ _ _ _ _ node
