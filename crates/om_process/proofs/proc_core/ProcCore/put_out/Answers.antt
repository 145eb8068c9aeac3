use Rattle.std.proofs.Common.{◌≤◌, ◌<◌, ◌≡◌, arith, ap, sym, refl, subst}
use Rattle.om_machine.specs.Finishing.{TakesWord}
use Rattle.om_machine.specs.derived.NextStep.{next_of}
use Rattle.om_machine.specs.declared.limits.TheConstants.{LAST_COUNT}
use Rattle.om_machine.proofs.Stops.{room_at_word}
use Rattle.om_format.specs.declared.queue.QueueEntry.{QueueEntry}
use Rattle.om_format.specs.Queues.{queue_end}
use Rattle.om_process.specs.Core.{CoreState}
use Rattle.om_process.proofs.CoreLemmas.{core_put_out, box_long, same_process, queues_put_out}
use Rattle.om_process.proofs.proc_core.ProcCore.put_out.Goals as goal

pub overflow_add-self : goal.overflow_add-self
overflow_add-self c =
    let room : c.self.inside.machine.count < LAST_COUNT = room_at_word c.self.inside.machine (subst (λ (s : CoreState). TakesWord (next_of s.now.machine).0) (sym c.self.view_is) c.requires.word) in
    let i : c.self.inside.made ≤ c.self.inside.machine.count = c.self.invariant.made in
    omega arith

pub invariant_of-self-2 : goal.invariant_of-self-2
invariant_of-self-2 c =
    core_put_out _ c.finish_word.new.self.count _ (record { interval = c.self.inside.interval; body = c.in_ok-body.body }) _ c.finish_word.ensures.counted refl refl c.in_ok-body.ensures.short c.in_ok-push.ensures.ok c.self.invariant

pub returns-clause-ok : goal.returns-clause-ok
returns-clause-ok c =
    let d : QueueEntry = record { interval = c.self.inside.interval; body = c.in_ok-body.body } in
    let boxes = c.self.inside.outbox.items in
    rw (← c.self.view_is)
    (same_process c.self.inside.interval c.self.inside.vec c.self.inside.got _ c.finish_word.new.self _ _ (sym c.finish_word.ensures.state) (queues_put_out _ d _ boxes _ _ (box_long _ c.self.invariant) (ap (λ b. record { interval = c.self.inside.interval; body = b }) c.in_ok-body.ensures.bytes) c.in_ok-push.ensures.ok))

pub push-requires : goal.push-requires
push-requires c =
    let room : c.self.inside.machine.count < LAST_COUNT = room_at_word c.self.inside.machine (subst (λ (s : CoreState). TakesWord (next_of s.now.machine).0) (sym c.self.view_is) c.requires.word) in
    let i : c.self.inside.made ≤ c.self.inside.machine.count = c.self.invariant.made in
    let e : queue_end c.self.inside.outputs ≡ c.self.inside.made = c.self.invariant.outputs_end in
    omega arith
