use Rattle.std.proofs.Common.{◌≡◌, ◌-◌, length, drop, max, refl, sym, ap, ◌∙◌}
use Rattle.om_process.specs.Core.{CoreState, cluster_size}
use Rattle.om_process.specs.Frames.{outputs_of}
use Rattle.om_process.specs.Kept.{made_as, numbered}
use Rattle.om_process.specs.steps.Numbers.{made_entry}
use Rattle.om_process.specs.declared.queues.Made.{Made}
use Rattle.om_process.proofs.CoreLemmas.{box_long}
use Rattle.om_process.proofs.Numbering.{has_numbered}
use Rattle.om_process.proofs.QueueLemmas.{queue_last}
use Rattle.om_process.proofs.proc_core.ProcCore.outputs_from.Goals as goal

pub returns-clause-made : goal.returns-clause-made
returns-clause-made c =
    let last = queue_last c.self.inside.outbox.items c.self.inside.outputs (length c.self.inside.vec) (box_long _ c.self.invariant) in
    let kept : c.above.result.now ≡ numbered made_as (max (outputs_of c.args.self.now).first c.args.seq) (drop (c.args.seq - (outputs_of c.args.self.now).first) (outputs_of c.args.self.now).entries) =
    c.above.ensures ∙ ap (λ q. numbered made_as (max q.first c.args.seq) (drop (c.args.seq - q.first) q.entries)) (sym last)
    ∙ ap (λ (s : CoreState). numbered made_as (max (outputs_of s).first c.args.seq) (drop (c.args.seq - (outputs_of s).first) (outputs_of s).entries)) c.self.view_is in
    λ i m at. has_numbered made_as (λ (x : Made). x.seq) made_entry c.args.self.now.now.queues (cluster_size c.args.self.now.now) c.args.seq i c.above.result.now m (λ k e. (refl, refl)) kept at
