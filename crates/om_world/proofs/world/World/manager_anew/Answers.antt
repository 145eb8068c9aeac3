use Rattle.std.proofs.Common.{◌≡◌, ◌∙◌, ap, length, subst, sym, Err, rules}
use Rattle.om_interval.specs.Vectors.{IsBelow}
use Rattle.om_manager.specs.State.{process_count}
use Rattle.om_world.specs.Started.{IsNew}
use Rattle.om_world.specs.World.{WorldState}
use Rattle.om_world.specs.steps.Members.{sound_in}
use Rattle.om_world.proofs.Lists.{once_err}
use Rattle.om_world.proofs.Restarted.{made_anew, released_told, told_before}
use Rattle.om_world.proofs.Undamaged.{none_lost, stands}
use Rattle.om_world.proofs.world.World.manager_anew.Goals as goal
use Rattle.om_world.proofs.Reading.{whole_after}

pub tell_stores-requires-clause-fresh : goal.tell_stores-requires-clause-fresh
tell_stores-requires-clause-fresh g c =
    let many : c.n-count.result ≡ length c.args.self.now.programs = c.n-count.ensures.places ∙ ap length c.recovery.ensures.recovery ∙ c.self.invariant.shape.size ∙ ap (λ (w : WorldState). length w.programs) c.self.view_is in
    subst (λ n. IsNew n c.in_ok-manager.manager) many c.in_ok-manager.ensures.fresh

pub fail_all-requires : goal.fail_all-requires
fail_all-requires g c =
    record { before = told_before c.n-count.result c.in_ok-manager.manager c.tell_stores.new.manager c.in_ok-manager.ensures.fresh c.in_ok-tell_stores.ensures.told.told }

pub returns-clause-made : goal.returns-clause-made
returns-clause-made g c =
    let many : c.n-count.result ≡ length c.args.self.now.programs = c.n-count.ensures.places ∙ ap length c.recovery.ensures.recovery ∙ c.self.invariant.shape.size ∙ ap (λ (w : WorldState). length w.programs) c.self.view_is in
    let fresh = subst (λ n. IsNew n c.in_ok-manager.manager) many c.in_ok-manager.ensures.fresh in
    let mid = c.tell_stores.new.self in let told = c.tell_stores.new.manager in
    let below = subst (λ r. IsBelow c.recovery-2.result r) c.recovery-3.ensures.recovery (c.leq.ensures.0 c.if-not-leq.false) in
    let kept = subst (λ (w : WorldState). IsBelow w.manager.recovery told.recovery) c.self-2.view_is (subst (λ r. IsBelow r told.recovery) c.recovery-2.ensures.recovery below) in
    made_anew c.args.self.now mid c.in_ok-manager.manager told c.fail_all.new.manager fresh c.in_ok-tell_stores.ensures.told (subst (λ (w : WorldState). process_count w.manager ≡ length w.programs) c.self-2.view_is c.self-2.invariant.shape.size)
    (λ known whole. kept) (released_told c.args.self.now mid c.in_ok-manager.manager told c.in_ok-tell_stores.ensures.told kept) c.in_ok-fail_all.ensures.failed c.in_ok-fail_all.ensures.sound

pub returns-in_err-tell_stores-clause-counted : goal.returns-in_err-tell_stores-clause-counted
returns-in_err-tell_stores-clause-counted g c = λ is.
    let from : c.from_residual-in_err-tell_stores.result ≡ Err c.in_err-tell_stores.field-0.0 = search rules in
    c.tell_stores.ensures.counted (c.in_err-tell_stores.was ∙ ap (λ e. Err e) (once_err c.from_residual-in_err-tell_stores.result _ _ from is))

pub returns-in_err-tell_stores-clause-whole : goal.returns-in_err-tell_stores-clause-whole
returns-in_err-tell_stores-clause-whole g c = λ known whole is.
    let from : c.from_residual-in_err-tell_stores.result ≡ Err c.in_err-tell_stores.field-0.0 = search rules in
    c.tell_stores.ensures.whole known whole (c.in_err-tell_stores.was ∙ ap (λ e. Err e) (once_err c.from_residual-in_err-tell_stores.result _ _ from is))

pub returns-then-not-leq-clause-whole : goal.returns-then-not-leq-clause-whole
returns-then-not-leq-clause-whole g c = λ known whole is.
    let many : c.n-count.result ≡ length c.args.self.now.programs = c.n-count.ensures.places ∙ ap length c.recovery.ensures.recovery ∙ c.self.invariant.shape.size ∙ ap (λ (w : WorldState). length w.programs) c.self.view_is in
    let fresh = subst (λ n. IsNew n c.in_ok-manager.manager) many c.in_ok-manager.ensures.fresh in
    let mid = c.tell_stores.new.self in let told = c.tell_stores.new.manager in
    let now = whole_after c.args.self.now mid c.in_ok-tell_stores.ensures.told.read whole in
    let w = stands (sound_in g.S.Stable.IsSound) _ _ mid now.0 c.self-2.invariant c.self-2.view_is known now.1 in
    let below = none_lost c.args.self.now mid c.in_ok-manager.manager told now.0 fresh c.in_ok-tell_stores.ensures.told w.0 w.1 known in
    let here : IsBelow c.recovery-2.result c.recovery-3.result =
    subst (λ r. IsBelow r c.recovery-3.result) (sym (c.recovery-2.ensures.recovery ∙ ap (λ (w : WorldState). w.manager.recovery) c.self-2.view_is)) (subst (λ r. IsBelow mid.manager.recovery r) (sym c.recovery-3.ensures.recovery) below) in
    let yes = c.leq.ensures.1 here in
    cc
