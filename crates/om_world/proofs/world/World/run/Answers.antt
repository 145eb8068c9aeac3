use Rattle.std.proofs.Common.{◌≡◌, ◌∙◌, ap, refl, slice_get, subst, sym, Err, rules}
use Rattle.om_world.specs.declared.event.Event.{Event}
use Rattle.om_world.specs.Happened.{Happened}
use Rattle.om_world.specs.steps.Moves.{answered}
use Rattle.om_world.specs.steps.Running.{HasHandedIn, refusal_of_output}
use Rattle.om_world.specs.World.{WorldState}
use Rattle.om_world.proofs.Keeping.{keeps_by}
use Rattle.om_world.proofs.NotRunning.{told_not_running}
use Rattle.om_world.proofs.Seats.{told_err, told_ok}
use Rattle.om_world.proofs.Running.{hand_keeps, hand_stopped, has_run, keeps_more, made_grows}
use Rattle.om_world.proofs.world.World.run.Goals as goal

pub send-requires-clause-more : goal.send-requires-clause-more
send-requires-clause-more g c =
    keeps_more c.args.self.now c.turns.new.self c.args.p c.args.fuel c.messages-messages.result c.messages-messages.ensures (c.turns.ensures.goes_on, c.turns.ensures.rest)

pub overflow_sub-made : goal.overflow_sub-made
overflow_sub-made g c =
    made_grows c.args.self.now c.turns.new.self c.send.new.self c.args.p c.args.fuel c.in_ok-sent.sent c.outputs-outputs.result c.outputs.result c.messages-messages.result c.outputs-outputs.ensures (c.turns.ensures.goes_on, c.turns.ensures.rest) c.in_ok-sent.ensures.sent c.outputs.ensures

pub returns-in_err-hand_in-clause-happened : goal.returns-in_err-hand_in-clause-happened
returns-in_err-hand_in-clause-happened g c = λ known.
    let w = c.args.self.now in let z = c.hand_in.new.self in let k = c.hand_in.ensures in
    let f = told_err refusal_of_output k.0 c.hand_in.result c.in_err-hand_in.field-0.0 k.2 c.in_err-hand_in.was in
    let h = subst (λ a. HasHandedIn c.send.new.self c.args.p a z) f.1 k.1 in
    let is : c.from_residual-in_err-hand_in.result ≡ Err c.in_err-hand_in.field-0.0 = search rules in
    subst (λ r. Happened w (Event.Run c.args.p c.args.fuel) (answered r) z) (sym (is ∙ ap Err f.2))
    (hand_stopped w c.turns.new.self c.send.new.self z c.args.p c.args.fuel c.in_ok-sent.sent c.messages-messages.result f.0 c.in_ok-is_up.ensures.up c.messages-messages.ensures (c.turns.ensures.goes_on, c.turns.ensures.rest) c.in_ok-sent.ensures.sent h known)

pub returns-in_err-hand_in-clause-keeps : goal.returns-in_err-hand_in-clause-keeps
returns-in_err-hand_in-clause-keeps g c =
    hand_keeps c.args.self.now c.turns.new.self c.send.new.self c.hand_in.new.self c.args.p c.args.fuel c.in_ok-sent.sent c.messages-messages.result c.hand_in.ensures.0 (c.turns.ensures.goes_on, c.turns.ensures.rest) c.in_ok-sent.ensures.sent c.hand_in.ensures.1

pub returns-clause-happened : goal.returns-clause-happened
returns-clause-happened g c = λ known.
    let k = c.hand_in.ensures in
    let h = subst (λ a. HasHandedIn c.send.new.self c.args.p a c.hand_in.new.self) (told_ok refusal_of_output k.0 c.hand_in.result _ k.2 c.in_ok-hand_in.was) k.1 in
    has_run c.args.self.now c.turns.new.self c.send.new.self c.hand_in.new.self c.args.p c.args.fuel c.in_ok-sent.sent c.outputs-outputs.result c.outputs.result c.messages-messages.result c.in_ok-ran.ran
    c.in_ok-is_up.ensures.up c.messages-messages.ensures c.outputs-outputs.ensures (c.turns.ensures.goes_on, c.turns.ensures.rest) c.in_ok-ran.ensures.ran c.in_ok-sent.ensures.sent c.outputs.ensures h known

pub returns-clause-keeps : goal.returns-clause-keeps
returns-clause-keeps g c =
    hand_keeps c.args.self.now c.turns.new.self c.send.new.self c.hand_in.new.self c.args.p c.args.fuel c.in_ok-sent.sent c.messages-messages.result c.hand_in.ensures.0 (c.turns.ensures.goes_on, c.turns.ensures.rest) c.in_ok-sent.ensures.sent c.hand_in.ensures.1

pub returns-in_err-is_up-clause-happened : goal.returns-in_err-is_up-clause-happened
returns-in_err-is_up-clause-happened g c = λ known.
    let is : c.from_residual.result ≡ Err c.in_err-is_up.field-0.0 = search rules in
    told_not_running _ _ c.args.p (Event.Run c.args.p c.args.fuel) _ _ (λ n. n) (λ n. n) is c.in_err-is_up.ensures.not_running

pub returns-in_err-is_up-clause-keeps : goal.returns-in_err-is_up-clause-keeps
returns-in_err-is_up-clause-keeps g c = keeps_by _ _ refl refl refl

pub messages-messages-requires : goal.messages-messages-requires
messages-messages-requires g c = c.in_ok-is_up.ensures.up

pub outputs-outputs-requires : goal.outputs-outputs-requires
outputs-outputs-requires g c = c.in_ok-is_up.ensures.up

pub turns-requires : goal.turns-requires
turns-requires g c = c.in_ok-is_up.ensures.up

pub send-requires-clause-up : goal.send-requires-clause-up
send-requires-clause-up g c = ap (λ (x : WorldState). slice_get x.places c.args.p) c.turns.ensures.rest ∙ c.in_ok-is_up.ensures.up

pub outputs-requires : goal.outputs-requires
outputs-requires g c = ap (λ (x : WorldState). slice_get x.places c.args.p) c.in_ok-sent.ensures.sent.3 ∙ ap (λ (x : WorldState). slice_get x.places c.args.p) c.turns.ensures.rest ∙ c.in_ok-is_up.ensures.up

pub hand_in-requires : goal.hand_in-requires
hand_in-requires g c = ap (λ (x : WorldState). slice_get x.places c.args.p) c.in_ok-sent.ensures.sent.3 ∙ ap (λ (x : WorldState). slice_get x.places c.args.p) c.turns.ensures.rest ∙ c.in_ok-is_up.ensures.up
