use Rattle.std.proofs.Common.{◌≡◌, ◌++◌, ◌∙◌, arith, length, append_assoc}
use Rattle.std.specs.Prelude.{codes, decimal}
use Rattle.std.proofs.lemmas.Result.{on_ok_weaker}
use Rattle.om_process.specs.Kept.{queue_at}
use Rattle.om_look.proofs.TraceLemmas.{gained_sent, nothing_gained, sent_length}
use Rattle.om_look.proofs.trace_text.push_sent.Goals as goal

pub returns-then-kept-sent : goal.returns-then-kept-sent
returns-then-kept-sent c =
    let q = queue_at c.args.core.now.now.queues c.args.to in
    let long : length c.outbox-sent.result.now ≡ length q.entries = sent_length q c.outbox-sent.result.now c.outbox-sent.ensures.kept in
    nothing_gained (codes "send " ++ decimal c.args.to) c.args.kept q c.args.text.now.items (omega arith)

pub returns : goal.returns
returns c =
    let q = queue_at c.args.core.now.now.queues c.args.to in
    on_ok_weaker c.push_entry.result
    (λ pushed. gained_sent (codes "send " ++ decimal c.args.to) c.args.kept c.from.result c.as_slice.result.now q c.outbox-sent.result.now c.index-sent-kept.result
    c.args.text.now.items c.push_receiver.new.text.items c.push_entry.new.text.items c.outbox-sent.ensures.kept c.if-kept-sent.false c.index-sent-kept.is
    c.from.ensures c.as_slice.ensures.bytes (c.in_ok-push_receiver.ensures ∙ append_assoc c.args.text.now.items (codes "send ") (decimal c.args.to)) pushed) c.push_entry.ensures
