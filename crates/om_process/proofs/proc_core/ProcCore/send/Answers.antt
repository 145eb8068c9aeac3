use Rattle.std.proofs.Common.{◌<◌, ◌+◌, arith, ap, sym, ◌∙◌, length, set, refl, subst}
use Rattle.om_format.specs.declared.queue.QueueEntry.{QueueEntry}
use Rattle.om_process.specs.Core.{CoreState, cluster_size}
use Rattle.om_process.specs.Process.{emitted}
use Rattle.om_process.proofs.CoreLemmas.{core_sent, box_long, same_process, queues_sent}
use Rattle.om_process.proofs.proc_core.ProcCore.send.Goals as goal

pub invariant_of-self-2 : goal.invariant_of-self-2
invariant_of-self-2 c =
    let box = c.in_ok-push_at.ensures.ok ∙ ap (λ p. emitted p (record { interval = c.self.inside.interval; body = c.in_ok-body.body }) c.self.inside.outbox.items) c.index.ensures.place in
    core_sent _ c.finish_word.new.self.count c.args.to (record { interval = c.self.inside.interval; body = c.in_ok-body.body }) c.set.new.self _ (omega (arith, c.finish_word.ensures.counted)) refl c.in_ok-body.ensures.short
    box (c.set.ensures ∙ ap (λ g. set c.self.inside.sent c.args.to (g + 1)) c.get.ensures) c.self.invariant

pub returns-clause-ok : goal.returns-clause-ok
returns-clause-ok c =
    let d : QueueEntry = record { interval = c.self.inside.interval; body = c.in_ok-body.body } in
    let boxes = c.self.inside.outbox.items in
    let box = c.in_ok-push_at.ensures.ok ∙ ap (λ p. emitted p d boxes) c.index.ensures.place in
    let place : c.args.to < length c.self.inside.vec = subst (λ (s : CoreState). c.args.to < cluster_size s.now) (sym c.self.view_is) c.requires.place in
    let within : c.args.to < length boxes = subst (λ k. c.args.to < k) (sym (box_long _ c.self.invariant)) place in
    rw (← c.self.view_is)
    (same_process c.self.inside.interval c.self.inside.vec c.self.inside.got _ c.finish_word.new.self _ _ (sym c.finish_word.ensures.state) (queues_sent c.args.to d _ boxes _ c.self.inside.outputs within (ap (λ b. record { interval = c.self.inside.interval; body = b }) c.in_ok-body.ensures.bytes) box))
