use Rattle.std.proofs.Common.{◌≡◌, subst, sym, Err, rules}
use Rattle.om_world.specs.steps.Pruning.{AllPruned, HasPruned}
use Rattle.om_world.proofs.Pruning.{none_pruned, one_pruned, refused_all}
use Rattle.om_world.proofs.world.World.prune_stores.Goals as goal

pub loop-p-init : goal.loop-p-init
loop-p-init g c = none_pruned c.args.self.now

pub loop-p-preserved : goal.loop-p-preserved
loop-p-preserved g c = one_pruned c.args.self.now c.loop-p.self c.prune_store.new.self c.loop-p.p c.loop-p.invariant (subst (λ a. HasPruned c.loop-p.self c.loop-p.p a c.prune_store.new.self) c.in_ok-prune_store.was c.prune_store.ensures.pruned)

pub returns-in_err-prune_store-clause-pruned : goal.returns-in_err-prune_store-clause-pruned
returns-in_err-prune_store-clause-pruned g c =
    let fault = c.in_err-prune_store.field-0.0 in
    let h = subst (λ a. HasPruned c.loop-p.self c.loop-p.p a c.prune_store.new.self) c.in_err-prune_store.was c.prune_store.ensures.pruned in
    let is : c.from_residual.result ≡ Err fault = search rules in
    subst (λ r. AllPruned c.args.self.now r c.prune_store.new.self) (sym is) (refused_all c.args.self.now c.loop-p.self c.prune_store.new.self c.loop-p.p fault c.loop-p.invariant h)
