use Rattle.std.proofs.Common.{rules, ◌≡◌, ◌+◌, ◌<◌, suc, length, get_or, set, take, vec_len, List, ap, ◌∙◌, subst, arith}
use Rattle.om_format.specs.Queues.{QueueRecord}
use Rattle.om_process.specs.Trims.{trimmed_queue, trimmed_queues}
use Rattle.om_process.proofs.QueueLemmas.{length-trimmed_queues, trimmed_more}
use Rattle.om_process.proofs.trim.trim_all.Goals as goal

pub index_mut-requires : goal.index_mut-requires
index_mut-requires c =
    let long : length c.loop-q.outbox.items ≡ length c.args.outbox.now.items = ap length c.loop-q.invariant ∙ length-trimmed_queues (take c.loop-q.q c.args.bounds.now) c.args.outbox.now.items in
    let now : vec_len c.loop-q.outbox ≡ length c.loop-q.outbox.items = search rules in
    let end : c.loop-q.q < length c.args.outbox.now.items = search rules in
    omega arith

pub loop-q-preserved : goal.loop-q-preserved
loop-q-preserved c =
    let bounds = c.args.bounds.now in
    let qs = c.args.outbox.now.items in
    let q = c.loop-q.q in
    let old = c.index_mut.result.now in
    let end : q < length qs = search rules in
    let within : q < length bounds = omega arith in
    let next : suc q ≡ q + 1 = omega arith in
    ap (set c.loop-q.outbox.items q) c.trim.ensures
    ∙ ap (λ (rs : List QueueRecord). set rs q (trimmed_queue (get_or bounds q 0) old)) c.loop-q.invariant
    ∙ trimmed_more bounds qs q old within c.requires (subst (λ (rs : List QueueRecord). old ≡ get_or rs q old) c.loop-q.invariant c.index_mut.ensures.value)
    ∙ ap (λ j. trimmed_queues (take j bounds) qs) next
