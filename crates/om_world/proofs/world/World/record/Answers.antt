use Rattle.std.proofs.Common.{◌≡◌, ◌∙◌, ap, subst, sym, Err, rules}
use Rattle.om_world.specs.declared.event.Answer.TheVariants as answers
use Rattle.om_world.specs.Happened.{Happened}
use Rattle.om_world.specs.Played.{IsCounted}
use Rattle.om_world.specs.steps.Moves.{HasCalled, HasTold, event_of, refusal_of_store, answered}
use Rattle.om_world.proofs.Keeping.{keeps_called, keeps_recorded}
use Rattle.om_world.proofs.Recording.{all_noted, some_noted, store_counted, store_refused}
use Rattle.om_world.proofs.Seats.{noted_err, noted_ok, told_err, told_ok}
use Rattle.om_world.proofs.world.World.record.Goals as goal

pub returns-in_err-store-clause-keeps : goal.returns-in_err-store-clause-keeps
returns-in_err-store-clause-keeps g c = keeps_called c.args.kind c.args.self.now c.store.new.self c.args.p _ c.store.ensures.called.1

pub returns-in_err-store-clause-happened : goal.returns-in_err-store-clause-happened
returns-in_err-store-clause-happened g c = λ all.
    let s = c.store.ensures.called in
    let t = told_err refusal_of_store s.0 c.store.result c.in_err-store.field-0.0 s.2 c.in_err-store.was in
    let h = subst (λ a. HasCalled c.args.kind c.args.self.now c.args.p a c.store.new.self) t.1 s.1 in
    let is : c.from_residual-in_err-store.result ≡ Err c.in_err-store.field-0.0 = search rules in
    subst (λ r. Happened c.args.self.now (event_of c.args.kind c.args.p) (answered r) c.store.new.self) (sym (is ∙ ap Err t.2)) (store_refused c.args.kind c.args.self.now c.store.new.self c.args.p t.0 c.in_ok-is_up.ensures.up h all)

pub returns-in_err-store-clause-counted : goal.returns-in_err-store-clause-counted
returns-in_err-store-clause-counted g c =
    let w = c.args.self.now in let mid = c.store.new.self in
    let s = c.store.ensures.called in
    let t = told_err refusal_of_store s.0 c.store.result c.in_err-store.field-0.0 s.2 c.in_err-store.was in
    let h = subst (λ a. HasCalled c.args.kind w c.args.p a mid) t.1 s.1 in
    let is : c.from_residual-in_err-store.result ≡ Err c.in_err-store.field-0.0 = search rules in
    subst (λ r. IsCounted w mid (answered r)) (sym (is ∙ ap Err t.2)) (store_counted c.args.kind w mid c.args.p t.0 h)

pub returns-in_err-count-clause-happened : goal.returns-in_err-count-clause-happened
returns-in_err-count-clause-happened g c = λ all.
    let w = c.args.self.now in let mid = c.store.new.self in let v = c.note.new.self in
    let s = c.store.ensures.called in let n = c.note.ensures in
    let t = noted_err n.0 n.1 c.note.result c.in_err-count.field-0.0 n.3 c.in_err-count.was in
    let h = subst (λ a. HasCalled c.args.kind w c.args.p a mid) (told_ok refusal_of_store s.0 c.store.result _ s.2 c.in_ok-store.was) s.1 in
    let u = subst (λ a. HasTold mid c.args.p n.0 a v) t.1 n.2 in
    let is : c.from_residual-in_err-count.result ≡ Err c.in_err-count.field-0.0 = search rules in
    subst (λ r. Happened w (event_of c.args.kind c.args.p) (answered r) v) (sym (is ∙ ap Err t.2)) (some_noted c.args.kind w mid v c.args.p n.0 t.0 c.in_ok-is_up.ensures.up h u all)

pub returns-in_err-count-clause-keeps : goal.returns-in_err-count-clause-keeps
returns-in_err-count-clause-keeps g c =
    let s = c.store.ensures.called in let n = c.note.ensures in
    keeps_recorded c.args.kind c.args.self.now c.store.new.self c.note.new.self c.args.p n.0 s.0 n.1 s.1 n.2

pub returns-clause-happened : goal.returns-clause-happened
returns-clause-happened g c = λ all.
    let w = c.args.self.now in let mid = c.store.new.self in let v = c.note.new.self in
    let s = c.store.ensures.called in let n = c.note.ensures in
    let t = noted_ok n.0 n.1 c.note.result c.in_ok-count.count n.3 c.in_ok-count.was in
    let h = subst (λ a. HasCalled c.args.kind w c.args.p a mid) (told_ok refusal_of_store s.0 c.store.result _ s.2 c.in_ok-store.was) s.1 in
    let u = subst (λ a. HasTold mid c.args.p n.0 a v) t.1 n.2 in
    subst (λ count. Happened w (event_of c.args.kind c.args.p) (answers.Noted count) v) t.0 (all_noted c.args.kind w mid v c.args.p n.0 c.in_ok-is_up.ensures.up h u all)

pub returns-clause-keeps : goal.returns-clause-keeps
returns-clause-keeps g c =
    let s = c.store.ensures.called in let n = c.note.ensures in
    keeps_recorded c.args.kind c.args.self.now c.store.new.self c.note.new.self c.args.p n.0 s.0 n.1 s.1 n.2
