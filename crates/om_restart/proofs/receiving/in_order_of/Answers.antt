use Rattle.std.proofs.Common.{rules, ◌≡◌, ◌<◌, ◌≤◌, ◌+◌, ◌-◌, ◌++◌, ◌∷◌, [], length, arith, ap, ◌∙◌, sym}
use Rattle.std.specs.Prelude.{Some, slice_get}
use Rattle.std.proofs.lemmas.Option.{slice_get-get_or}
use Rattle.om_restart.specs.steps.Receiving.{IsFrom}
use Rattle.om_restart.proofs.SenderLemmas.{received_all, received_left, received_told}
use Rattle.om_restart.proofs.receiving.in_order_of.Goals as goal
use Rattle.om_restart.proofs.receiving.in_order_of.Goals.{in-Some+in_ok-push, in_default}

pub loop-at-preserved : goal.loop-at-preserved
loop-at-preserved c =
    let rows = c.args.rows.now in let at = c.loop-at.at in let received = c.loop-at.received.items in
    let row = c.index-rows-at.result in let before = c.index-rows-at-in-loop-at.result in
    let within : at < length rows = search rules in
    let some : 1 ≤ at = search rules in
    let next : (at - 1) + 1 ≡ at = omega (arith, some) in
    let at_row : slice_get rows at ≡ Some row = slice_get-get_or rows at row within ∙ ap (λ (x : _). Some x) (sym c.index-rows-at.is) in
    let at_before : slice_get rows (at - 1) ≡ Some before =
    slice_get-get_or rows (at - 1) before (omega (arith, within, some)) ∙ ap (λ (x : _). Some x) (sym c.index-rows-at-in-loop-at.is) in
    elim c.match-sender_of.branch [
      | in-Some+in_ok-push w ↦
          let from : IsFrom before row w.in-Some.from = w.in-Some.ensures.told in
          let more : c.match-sender_of.received.items ≡ received ++ (row.x, w.in-Some.from) ∷ [] = ap (λ (v : _). v.items) w.received-is ∙ w.in_ok-push.ensures.items in
          rw more (received_told (at - 1) at rows received before row w.in-Some.from next at_before at_row from c.loop-at.invariant)
      | in_default w ↦
          rw w.received-is (received_left (at - 1) at rows received before row next at_before at_row
          (λ q from small. w.in_default.not-Some q (c.sender_of.ensures.all q from small)) c.loop-at.invariant)
    ]

pub returns : goal.returns
returns c = received_all c.loop-at.at c.args.rows.now c.loop-at.received.items (search rules) c.loop-at.invariant
