use Rattle.std.proofs.Common.{◌≡◌, subst, sym, Err, rules}
use Rattle.om_world.specs.declared.event.Event.{Event}
use Rattle.om_world.specs.Happened.{Happened}
use Rattle.om_world.specs.Played.{IsCounted}
use Rattle.om_world.specs.steps.Moves.{answered, refusal_of_store}
use Rattle.om_world.specs.steps.Pruning.{AllPruned}
use Rattle.om_world.proofs.Pruning.{prune_counted, prune_happened, prune_keeps, prune_refused}
use Rattle.om_world.proofs.world.World.prune.Goals as goal

pub returns-in_err-prune_stores-clause-happened : goal.returns-in_err-prune_stores-clause-happened
returns-in_err-prune_stores-clause-happened g c = λ known.
    let w = c.args.self.now in let v = c.prune_manager.new.self in let z = c.prune_stores.new.self in let fault = c.in_err-prune_stores.field-0.0 in
    let a = subst (λ r. AllPruned v r z) c.in_err-prune_stores.was c.prune_stores.ensures.pruned in
    let is : c.from_residual.result ≡ Err (refusal_of_store fault) = search rules in
    subst (λ r. Happened w Event.Prune (answered r) z) (sym is) (prune_refused w v z fault c.prune_manager.ensures.pruned c.prune_manager.ensures.rest a known)

pub returns-in_err-prune_stores-clause-keeps : goal.returns-in_err-prune_stores-clause-keeps
returns-in_err-prune_stores-clause-keeps g c = prune_keeps c.args.self.now c.prune_manager.new.self c.prune_stores.new.self c.prune_stores.result c.prune_manager.ensures.pruned c.prune_manager.ensures.rest c.prune_stores.ensures.pruned

pub returns-in_err-prune_stores-clause-counted : goal.returns-in_err-prune_stores-clause-counted
returns-in_err-prune_stores-clause-counted g c =
    let w = c.args.self.now in let v = c.prune_manager.new.self in let z = c.prune_stores.new.self in let fault = c.in_err-prune_stores.field-0.0 in
    let a = subst (λ r. AllPruned v r z) c.in_err-prune_stores.was c.prune_stores.ensures.pruned in
    let is : c.from_residual.result ≡ Err (refusal_of_store fault) = search rules in
    subst (λ r. IsCounted w z (answered r)) (sym is) (prune_counted w v z fault c.prune_manager.ensures.rest a)

pub returns-clause-happened : goal.returns-clause-happened
returns-clause-happened g c = λ known.
    let w = c.args.self.now in let v = c.prune_manager.new.self in let z = c.prune_stores.new.self in
    prune_happened w v z c.prune_manager.ensures.pruned c.prune_manager.ensures.rest (subst (λ r. AllPruned v r z) c.in_ok-prune_stores.was c.prune_stores.ensures.pruned) known

pub returns-clause-keeps : goal.returns-clause-keeps
returns-clause-keeps g c = prune_keeps c.args.self.now c.prune_manager.new.self c.prune_stores.new.self c.prune_stores.result c.prune_manager.ensures.pruned c.prune_manager.ensures.rest c.prune_stores.ensures.pruned
