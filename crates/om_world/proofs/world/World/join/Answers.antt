use Rattle.std.proofs.Common.{◌≡◌, ◌∙◌, Err, rules, ap, subst, sym, refl}
use Rattle.om_member.specs.declared.batch.Batch.TheVariants.{Log}
use Rattle.om_world.specs.Played.{IsCounted}
use Rattle.om_world.specs.steps.Gathering.{HasEntered}
use Rattle.om_world.specs.steps.Moves.{HasCalled, HasTold, answered, refusal_of_join, refusal_of_store}
use Rattle.om_world.specs.steps.Running.{HasHandedIn, refusal_of_output}
use Rattle.om_world.proofs.Entering.{join_handed_keeps, join_happened, join_keeps, join_not_entered, join_not_handed, join_not_noted, join_not_stored}
use Rattle.om_world.proofs.Keeping.{keeps_called, keeps_recorded, keeps_by}
use Rattle.om_world.proofs.Recording.{store_counted}
use Rattle.om_world.proofs.Seats.{noted_err, noted_ok, told_err, told_ok}
use Rattle.om_world.specs.declared.event.Event.{Event}
use Rattle.om_world.proofs.NotRunning.{told_not_running}
use Rattle.om_world.proofs.world.World.join.Goals as goal

pub returns-in_err-store-clause-happened : goal.returns-in_err-store-clause-happened
returns-in_err-store-clause-happened g c = λ known.
    let w = c.args.self.now in let mid = c.store.new.self in let s = c.store.ensures.called in
    let f = told_err refusal_of_store s.0 c.store.result c.in_err-store.field-0.0 s.2 c.in_err-store.was in
    let h = subst (λ a. HasCalled Log w c.args.p a mid) f.1 s.1 in
    let is : c.from_residual-in_err-store.result ≡ Err c.in_err-store.field-0.0 = search rules in
    join_not_stored w mid c.args.p f.0 c.from_residual-in_err-store.result c.in_ok-is_up.ensures.up c.in_ok-is_gathering.ensures.open h (is ∙ ap Err f.2) known

pub returns-in_err-store-clause-keeps : goal.returns-in_err-store-clause-keeps
returns-in_err-store-clause-keeps g c = keeps_called Log c.args.self.now c.store.new.self c.args.p _ c.store.ensures.called.1

pub returns-in_err-store-clause-counted : goal.returns-in_err-store-clause-counted
returns-in_err-store-clause-counted g c =
    let w = c.args.self.now in let mid = c.store.new.self in let s = c.store.ensures.called in
    let f = told_err refusal_of_store s.0 c.store.result c.in_err-store.field-0.0 s.2 c.in_err-store.was in
    let h = subst (λ a. HasCalled Log w c.args.p a mid) f.1 s.1 in
    let is : c.from_residual-in_err-store.result ≡ Err c.in_err-store.field-0.0 = search rules in
    subst (λ r. IsCounted w mid (answered r)) (sym (is ∙ ap Err f.2)) (store_counted Log w mid c.args.p f.0 h)

pub returns-in_err-note-clause-happened : goal.returns-in_err-note-clause-happened
returns-in_err-note-clause-happened g c = λ known.
    let w = c.args.self.now in let mid = c.store.new.self in let v = c.note.new.self in
    let s = c.store.ensures.called in let n = c.note.ensures in
    let h = subst (λ a. HasCalled Log w c.args.p a mid) (told_ok refusal_of_store s.0 c.store.result _ s.2 c.in_ok-store.was) s.1 in
    let f = noted_err n.0 n.1 c.note.result c.in_err-note.field-0.0 n.3 c.in_err-note.was in
    let t = subst (λ a. HasTold mid c.args.p n.0 a v) f.1 n.2 in
    let is : c.from_residual-in_err-note.result ≡ Err c.in_err-note.field-0.0 = search rules in
    join_not_noted w mid v c.args.p n.0 f.0 c.from_residual-in_err-note.result c.in_ok-is_up.ensures.up c.in_ok-is_gathering.ensures.open h t (is ∙ ap Err f.2) known

pub returns-in_err-note-clause-keeps : goal.returns-in_err-note-clause-keeps
returns-in_err-note-clause-keeps g c =
    let s = c.store.ensures.called in let n = c.note.ensures in
    keeps_recorded Log c.args.self.now c.store.new.self c.note.new.self c.args.p n.0 s.0 n.1 s.1 n.2

pub returns-in_err-hand_in-clause-happened : goal.returns-in_err-hand_in-clause-happened
returns-in_err-hand_in-clause-happened g c = λ known.
    let w = c.args.self.now in let mid = c.store.new.self in let v = c.note.new.self in let z = c.hand_in.new.self in
    let s = c.store.ensures.called in let n = c.note.ensures in let k = c.hand_in.ensures in
    let h = subst (λ a. HasCalled Log w c.args.p a mid) (told_ok refusal_of_store s.0 c.store.result _ s.2 c.in_ok-store.was) s.1 in
    let t = subst (λ a. HasTold mid c.args.p n.0 a v) (noted_ok n.0 n.1 c.note.result _ n.3 c.in_ok-note.was).1 n.2 in
    let f = told_err refusal_of_output k.0 c.hand_in.result c.in_err-hand_in.field-0.0 k.2 c.in_err-hand_in.was in
    let kept = subst (λ a. HasHandedIn v c.args.p a z) f.1 k.1 in
    let is : c.from_residual-in_err-hand_in.result ≡ Err c.in_err-hand_in.field-0.0 = search rules in
    join_not_handed w mid v z c.args.p n.0 f.0 c.from_residual-in_err-hand_in.result c.in_ok-is_up.ensures.up c.in_ok-is_gathering.ensures.open h t kept (is ∙ ap Err f.2) known

pub returns-in_err-hand_in-clause-keeps : goal.returns-in_err-hand_in-clause-keeps
returns-in_err-hand_in-clause-keeps g c =
    let s = c.store.ensures.called in let n = c.note.ensures in let k = c.hand_in.ensures in
    join_handed_keeps c.args.self.now c.store.new.self c.note.new.self c.hand_in.new.self c.args.p n.0 s.0 n.1 k.0 s.1 n.2 k.1

pub returns-in_err-told-clause-happened : goal.returns-in_err-told-clause-happened
returns-in_err-told-clause-happened g c = λ known.
    let w = c.args.self.now in let mid = c.store.new.self in let v = c.note.new.self in let z = c.hand_in.new.self in let u = c.enter.new.self in
    let s = c.store.ensures.called in let n = c.note.ensures in let k = c.hand_in.ensures in let e = c.enter.ensures in
    let h = subst (λ a. HasCalled Log w c.args.p a mid) (told_ok refusal_of_store s.0 c.store.result _ s.2 c.in_ok-store.was) s.1 in
    let t = subst (λ a. HasTold mid c.args.p n.0 a v) (noted_ok n.0 n.1 c.note.result _ n.3 c.in_ok-note.was).1 n.2 in
    let kept = subst (λ a. HasHandedIn v c.args.p a z) (told_ok refusal_of_output k.0 c.hand_in.result _ k.2 c.in_ok-hand_in.was) k.1 in
    let f = told_err refusal_of_join e.0 c.enter.result c.in_err-told.field-0.0 e.2 c.in_err-told.was in
    let entered = subst (λ a. HasEntered z c.args.p a u) f.1 e.1 in
    let is : c.from_residual-in_err-told.result ≡ Err c.in_err-told.field-0.0 = search rules in
    join_not_entered w mid v z u c.args.p n.0 f.0 c.from_residual-in_err-told.result c.in_ok-is_up.ensures.up c.in_ok-is_gathering.ensures.open h t kept entered (is ∙ ap Err f.2) known

pub returns-in_err-told-clause-keeps : goal.returns-in_err-told-clause-keeps
returns-in_err-told-clause-keeps g c =
    let s = c.store.ensures.called in let n = c.note.ensures in let k = c.hand_in.ensures in let e = c.enter.ensures in
    join_keeps c.args.self.now c.store.new.self c.note.new.self c.hand_in.new.self c.enter.new.self c.args.p n.0 s.0 n.1 k.0 e.0 s.1 n.2 k.1 e.1

pub returns-clause-happened : goal.returns-clause-happened
returns-clause-happened g c = λ known.
    let w = c.args.self.now in let mid = c.store.new.self in let v = c.note.new.self in let z = c.hand_in.new.self in let u = c.enter.new.self in
    let s = c.store.ensures.called in let n = c.note.ensures in let k = c.hand_in.ensures in let e = c.enter.ensures in
    let h = subst (λ a. HasCalled Log w c.args.p a mid) (told_ok refusal_of_store s.0 c.store.result _ s.2 c.in_ok-store.was) s.1 in
    let t = subst (λ a. HasTold mid c.args.p n.0 a v) (noted_ok n.0 n.1 c.note.result _ n.3 c.in_ok-note.was).1 n.2 in
    let kept = subst (λ a. HasHandedIn v c.args.p a z) (told_ok refusal_of_output k.0 c.hand_in.result _ k.2 c.in_ok-hand_in.was) k.1 in
    let entered = subst (λ a. HasEntered z c.args.p a u) (told_ok refusal_of_join e.0 c.enter.result c.in_ok-told.told e.2 c.in_ok-told.was) e.1 in
    join_happened w mid v z u c.args.p n.0 c.in_ok-told.told c.in_ok-is_up.ensures.up c.in_ok-is_gathering.ensures.open h t kept entered known

pub returns-clause-keeps : goal.returns-clause-keeps
returns-clause-keeps g c =
    let s = c.store.ensures.called in let n = c.note.ensures in let k = c.hand_in.ensures in let e = c.enter.ensures in
    join_keeps c.args.self.now c.store.new.self c.note.new.self c.hand_in.new.self c.enter.new.self c.args.p n.0 s.0 n.1 k.0 e.0 s.1 n.2 k.1 e.1

pub returns-in_err-is_up-clause-happened : goal.returns-in_err-is_up-clause-happened
returns-in_err-is_up-clause-happened g c = λ known.
    let is : c.from_residual.result ≡ Err c.in_err-is_up.field-0.0 = search rules in
    told_not_running _ _ c.args.p (Event.Join c.args.p) _ _ (λ n. n) (λ n. n) is c.in_err-is_up.ensures.not_running

pub returns-in_err-is_up-clause-keeps : goal.returns-in_err-is_up-clause-keeps
returns-in_err-is_up-clause-keeps g c = keeps_by _ _ refl refl refl

pub returns-in_err-is_gathering-clause-keeps : goal.returns-in_err-is_gathering-clause-keeps
returns-in_err-is_gathering-clause-keeps g c = keeps_by _ _ refl refl refl

pub store-requires : goal.store-requires
store-requires g c = c.in_ok-is_up.ensures.up
