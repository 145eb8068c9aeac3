use Rattle.std.proofs.Common.{◌≡◌, ◌++◌, ◌∷◌, [], List, length, sym, ap, ◌∙◌}
use Rattle.om_format.specs.Queues.{QueueRecord}
use Rattle.om_process.specs.Core.{CoreState, cluster_size}
use Rattle.om_process.specs.Trims.{trimmed_queues}
use Rattle.om_process.proofs.QueueLemmas.{trimmed-append}
use Rattle.om_process.proofs.CoreLemmas.{box_long, core_trimmed, same_core}
use Rattle.om_process.proofs.proc_core.ProcCore.trim.Goals as goal

pub invariant_of-self : goal.invariant_of-self
invariant_of-self c =
    core_trimmed _ c.as_slice.result.now c.args.bounds.now.released c.trim_all.new.outbox.items c.trim.new.self c.trim_all.ensures c.trim.ensures c.self.invariant

pub returns : goal.returns
returns c =
    let got = c.args.bounds.now.got in
    let box = c.self.inside.outbox.items in
    let long : length got ≡ length box = c.requires ∙ ap (λ (s : CoreState). cluster_size s.now) (sym c.self.view_is) ∙ sym (box_long _ c.self.invariant) in
    rw (← c.self.view_is)
    (same_core c.self.inside.pid c.self.inside.machine c.self.inside.interval c.self.inside.vec c.self.inside.got _ c.self.inside.pending.items c.self.inside.inc c.self.inside.round c.self.inside.starts _ _
    (ap (λ (qs : List QueueRecord). qs ++ c.trim.new.self ∷ []) (c.trim_all.ensures ∙ ap (λ bs. trimmed_queues bs box) c.as_slice.ensures.numbers)
    ∙ ap (λ q. trimmed_queues got box ++ q ∷ []) c.trim.ensures
    ∙ sym (trimmed-append got c.args.bounds.now.released box c.self.inside.outputs long)))
