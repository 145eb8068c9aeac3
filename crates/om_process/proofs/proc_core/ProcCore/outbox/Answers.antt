use Rattle.std.proofs.Common.{rules, ◌≡◌, ◌<◌, length, get_or, refl, sym, ap, ◌∙◌, subst}
use Rattle.om_process.specs.Core.{CoreState, cluster_size}
use Rattle.om_process.specs.Frames.{messages_to}
use Rattle.om_process.specs.Kept.{numbered, sent_as}
use Rattle.om_process.specs.steps.Numbers.{sent_entry}
use Rattle.om_process.specs.declared.queues.Sent.{Sent}
use Rattle.om_process.proofs.CoreLemmas.{box_long}
use Rattle.om_process.proofs.Numbering.{has_kept}
use Rattle.om_process.proofs.QueueLemmas.{queue_here}
use Rattle.om_process.proofs.proc_core.ProcCore.outbox.Goals as goal

pub returns-clause-sent : goal.returns-clause-sent
returns-clause-sent c =
    let box = c.self.inside.outbox.items in
    let here = c.index-2.result.now in
    let place : c.args.to < length c.self.inside.vec = subst (λ (s : CoreState). c.args.to < cluster_size s.now) (sym c.self.view_is) c.requires in
    let within : c.args.to < length box = subst (λ k. c.args.to < k) (sym (box_long _ c.self.invariant)) place in
    let at : here ≡ get_or box c.args.to here = search rules in
    let kept : c.as_slice.result.now ≡ numbered sent_as (messages_to c.args.self.now c.args.to).first (messages_to c.args.self.now c.args.to).entries =
    c.as_slice.ensures ∙ ap (λ q. numbered sent_as q.first q.entries) (sym (queue_here box c.self.inside.outputs here c.args.to within at))
    ∙ ap (λ (s : CoreState). numbered sent_as (messages_to s c.args.to).first (messages_to s c.args.to).entries) c.self.view_is in
    λ i s has. has_kept sent_as (λ (m : Sent). m.ssn) sent_entry c.args.self.now.now.queues c.args.to i c.as_slice.result.now s (λ k e. (refl, refl)) kept has
