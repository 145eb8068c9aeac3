use Rattle.std.proofs.Common.{◌≡◌, ◌∙◌, ap, length, subst, Err, rules, arith}
use Rattle.std.proofs.lemmas.List.{length-replicate}
use Rattle.om_manager.specs.State.{process_count, released_by}
use Rattle.om_world.specs.Started.{IsNew}
use Rattle.om_world.specs.World.{WorldState}
use Rattle.om_world.proofs.Lists.{once_err}
use Rattle.om_world.proofs.Restarted.{made_anew, released_told, told_before, told_outputs}
use Rattle.om_world.proofs.TakingUp.{released_whole}
use Rattle.om_world.proofs.Undamaged.{none_lost}
use Rattle.om_world.proofs.stopped.Stopped.manager_anew.Goals as goal
use Rattle.om_world.proofs.Reading.{whole_after}
use Rattle.om_world.proofs.Leaving.{shape_along}

pub tell_stores-requires-clause-fresh : goal.tell_stores-requires-clause-fresh
tell_stores-requires-clause-fresh g c = subst (λ n. IsNew n c.in_ok-manager.manager) c.size-n.ensures.programs c.in_ok-manager.ensures.fresh

pub has_released-requires-clause-many : goal.has_released-requires-clause-many
has_released-requires-clause-many g c =
    let same = ap (λ (w : WorldState). length w.programs) c.in_ok-tell_stores.ensures.read.others in
    let n = c.size-n.ensures.programs in omega arith

pub has_released-requires-clause-size : goal.has_released-requires-clause-size
has_released-requires-clause-size g c =
    let size : process_count c.tell_stores.new.manager ≡ c.size-n.result =
    c.in_ok-tell_stores.ensures.told.told.size ∙ ap length c.in_ok-manager.ensures.fresh.recovery ∙ length-replicate c.size-n.result 0 in
    omega arith

pub fail_all-requires : goal.fail_all-requires
fail_all-requires g c =
    record { before = told_before c.size-n.result c.in_ok-manager.manager c.tell_stores.new.manager c.in_ok-manager.ensures.fresh c.in_ok-tell_stores.ensures.told.told }

pub returns-clause-made : goal.returns-clause-made
returns-clause-made g c =
    let old = c.args.self.now in let first = c.in_ok-manager.manager in let mid = c.tell_stores.new.self in let told = c.tell_stores.new.manager in
    let fresh = subst (λ n. IsNew n first) c.size-n.ensures.programs c.in_ok-manager.ensures.fresh in
    let stores = c.in_ok-tell_stores.ensures.told in
    let same = ap (λ (w : WorldState). length w.programs) stores.read.others in
    let n = c.size-n.ensures.programs in
    made_anew old mid first told c.fail_all.new.manager fresh stores c.told.ensures.shape.size
    (λ known whole. none_lost old mid first told whole.0 fresh stores (shape_along mid whole.0 c.told.ensures.shape) (c.told.ensures.stands known whole.0 whole.1) known)
    (λ p lt. released_whole told p (released_by mid.manager p) (told_outputs old mid first told stores p lt) (c.has_released.ensures.released c.if-not-has_released.false p (omega arith)))
    c.in_ok-fail_all.ensures.failed c.in_ok-fail_all.ensures.sound

pub returns-in_err-tell_stores-clause-counted : goal.returns-in_err-tell_stores-clause-counted
returns-in_err-tell_stores-clause-counted g c = λ is.
    let from : c.from_residual-in_err-tell_stores.result ≡ Err c.in_err-tell_stores.field-0.0 = search rules in
    c.tell_stores.ensures.counted (c.in_err-tell_stores.was ∙ ap (λ e. Err e) (once_err c.from_residual-in_err-tell_stores.result _ _ from is))

pub returns-in_err-tell_stores-clause-whole : goal.returns-in_err-tell_stores-clause-whole
returns-in_err-tell_stores-clause-whole g c = λ known whole is.
    let from : c.from_residual-in_err-tell_stores.result ≡ Err c.in_err-tell_stores.field-0.0 = search rules in
    c.tell_stores.ensures.whole known whole (c.in_err-tell_stores.was ∙ ap (λ e. Err e) (once_err c.from_residual-in_err-tell_stores.result _ _ from is))

pub returns-then-not-has_released-clause-whole : goal.returns-then-not-has_released-clause-whole
returns-then-not-has_released-clause-whole g c = λ known whole is.
    let old = c.args.self.now in let first = c.in_ok-manager.manager in let mid = c.tell_stores.new.self in let told = c.tell_stores.new.manager in
    let fresh = subst (λ n. IsNew n first) c.size-n.ensures.programs c.in_ok-manager.ensures.fresh in
    let stores = c.in_ok-tell_stores.ensures.told in
    let same = ap (λ (w : WorldState). length w.programs) stores.read.others in
    let n = c.size-n.ensures.programs in
    let now = whole_after old mid stores.read whole in
    let below = none_lost old mid first told now.0 fresh stores (shape_along mid now.0 c.told.ensures.shape) (c.told.ensures.stands known now.0 now.1) known in
    let fewer = c.has_released.ensures.fewer c.if-not-has_released.true in
    let lt = fewer.1 in
    let as_many = ap length (released_told old mid first told stores below fewer.0 (omega arith)) in
    let less = fewer.2 in
    absurd (omega arith)
