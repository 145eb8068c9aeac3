use Rattle.std.proofs.Common.{rules, ◌≡◌, ◌≢◌, ◌<◌, ◌+◌, ◌++◌, ◌∷◌, [], length, get_or, ap, ◌∙◌}
use Rattle.std.specs.Prelude.{Some, slice_get}
use Rattle.std.proofs.lemmas.Option.{slice_get-get_or}
use Rattle.om_restart.proofs.SenderLemmas.{go_on_all, go_on_left, go_on_none, go_on_taken}
use Rattle.om_restart.proofs.receiving.add_following.Goals as goal
use Rattle.om_restart.proofs.receiving.add_following.Goals.{then-interval-len+in_ok-push, else-interval-len}

pub loop-interval-init : goal.loop-interval-init
loop-interval-init c = go_on_none c.args.received.now c.args.senders.now.items

pub loop-interval-preserved : goal.loop-interval-preserved
loop-interval-preserved c =
    let received = c.args.received.now in let m = c.loop-interval.interval-index in
    let first = c.args.senders.now.items in let senders = c.loop-interval.senders.items in
    let e = get_or received m (0, 0) in
    let within : m < length received = search rules in
    let at : slice_get received m ≡ Some e = slice_get-get_or received m (0, 0) within in
    elim c.if-interval-len.branch [
      | then-interval-len+in_ok-push w ↦
          let next : e.0 ≡ length senders + 1 = search rules in
          let more : c.if-interval-len.senders.items ≡ senders ++ e.1 ∷ [] = ap (λ (v : _). v.items) w.senders-is ∙ w.in_ok-push.ensures.items in
          rw more (go_on_taken m received first senders e within at c.requires next c.loop-interval.invariant)
      | else-interval-len w ↦
          let not : e.0 ≢ length senders + 1 = search rules in
          rw w.senders-is (go_on_left m received first senders e at not c.loop-interval.invariant)
    ]

pub returns : goal.returns
returns c = go_on_all c.loop-interval.interval-index c.args.received.now c.args.senders.now.items c.loop-interval.senders.items (search rules) c.loop-interval.invariant
