use Rattle.std.proofs.Common.{◌≡◌, ◌<◌, ◌∙◌, ap, arith, length, subst}
use Rattle.om_machine.specs.declared.event.Event.TheVariants.{Call}
use Rattle.om_process.specs.Core.{cluster_size}
use Rattle.om_process.specs.Kept.{numbered, queue_at, sent_as}
use Rattle.om_look.proofs.TraceLemmas.{kept_made, kept_sent}
use Rattle.om_look.proofs.trace_text.kept_at.Goals as goal

pub returns-else-to-n : goal.returns-else-to-n
returns-else-to-n c =
    let n = cluster_size c.args.core.now.now in
    let queues = c.args.core.now.now.queues in
    let to = c.in-Send.to in
    let places : c.n.result ≡ n = c.n.ensures.places ∙ ap length c.vec.ensures.vec in
    let within : to < n = omega (arith, c.if-to-n.false) in
    let kept : c.outbox.result.now ≡ numbered sent_as (queue_at queues to).first (queue_at queues to).entries = subst (λ place. c.outbox.result.now ≡ numbered sent_as (queue_at queues place).first (queue_at queues place).entries) c.at.ensures c.outbox.ensures.kept in
    kept_sent n to _ _ (Call c.args.call) queues c.outbox.result.now (ap Call c.in-Send.is) within kept

pub returns-in-Output : goal.returns-in-Output
returns-in-Output c =
    kept_made (cluster_size c.args.core.now.now) _ _ (Call c.args.call) c.args.core.now.now.queues c.outputs_from.result.now (ap Call c.in-Output.is) c.outputs_from.ensures.kept
