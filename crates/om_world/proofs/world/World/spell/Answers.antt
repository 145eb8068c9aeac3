use Rattle.std.proofs.Common.{◌≡◌, ◌∙◌, ap, subst, sym, Err, rules}
use Rattle.om_member.specs.declared.batch.Batch.TheVariants.{Checkpoint}
use Rattle.om_world.specs.declared.event.Event.{Event}
use Rattle.om_world.specs.Happened.{Happened}
use Rattle.om_world.specs.Played.{IsCounted}
use Rattle.om_world.specs.steps.Moves.{HasCalled, refusal_of_store, answered}
use Rattle.om_world.proofs.Keeping.{keeps_called}
use Rattle.om_world.proofs.Recording.{only_spelled, spell_refused, store_counted}
use Rattle.om_world.proofs.Seats.{told_err, told_ok}
use Rattle.om_world.proofs.world.World.spell.Goals as goal

pub returns-in_err-store-clause-keeps : goal.returns-in_err-store-clause-keeps
returns-in_err-store-clause-keeps g c = keeps_called Checkpoint c.args.self.now c.store.new.self c.args.p _ c.store.ensures.called.1

pub returns-in_err-store-clause-happened : goal.returns-in_err-store-clause-happened
returns-in_err-store-clause-happened g c = λ all.
    let w = c.args.self.now in let v = c.store.new.self in
    let s = c.store.ensures.called in
    let t = told_err refusal_of_store s.0 c.store.result c.in_err-store.field-0.0 s.2 c.in_err-store.was in
    let h = subst (λ a. HasCalled Checkpoint w c.args.p a v) t.1 s.1 in
    let is : c.from_residual-in_err-store.result ≡ Err c.in_err-store.field-0.0 = search rules in
    subst (λ r. Happened w (Event.Spell c.args.p) (answered r) v) (sym (is ∙ ap Err t.2)) (spell_refused w v c.args.p t.0 c.in_ok-is_up.ensures.up h all)

pub returns-in_err-store-clause-counted : goal.returns-in_err-store-clause-counted
returns-in_err-store-clause-counted g c =
    let w = c.args.self.now in let v = c.store.new.self in
    let s = c.store.ensures.called in
    let t = told_err refusal_of_store s.0 c.store.result c.in_err-store.field-0.0 s.2 c.in_err-store.was in
    let h = subst (λ a. HasCalled Checkpoint w c.args.p a v) t.1 s.1 in
    let is : c.from_residual-in_err-store.result ≡ Err c.in_err-store.field-0.0 = search rules in
    subst (λ r. IsCounted w v (answered r)) (sym (is ∙ ap Err t.2)) (store_counted Checkpoint w v c.args.p t.0 h)

pub returns-clause-happened : goal.returns-clause-happened
returns-clause-happened g c = λ all.
    let w = c.args.self.now in let v = c.store.new.self in
    let s = c.store.ensures.called in
    let h = subst (λ a. HasCalled Checkpoint w c.args.p a v) (told_ok refusal_of_store s.0 c.store.result _ s.2 c.in_ok-store.was) s.1 in
    only_spelled w v c.args.p c.in_ok-is_up.ensures.up h all

pub returns-clause-keeps : goal.returns-clause-keeps
returns-clause-keeps g c = keeps_called Checkpoint c.args.self.now c.store.new.self c.args.p _ c.store.ensures.called.1
