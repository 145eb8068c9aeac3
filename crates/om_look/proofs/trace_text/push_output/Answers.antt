use Rattle.std.proofs.Common.{◌≡◌, refl, arith, length}
use Rattle.std.specs.Prelude.{codes}
use Rattle.std.proofs.lemmas.Result.{on_ok_weaker}
use Rattle.om_process.specs.Core.{cluster_size}
use Rattle.om_process.specs.Kept.{queue_at}
use Rattle.om_look.proofs.TraceLemmas.{gained_made, nothing_gained, made_length}
use Rattle.om_look.proofs.trace_text.push_output.Goals as goal

pub returns-then-kept-outputs : goal.returns-then-kept-outputs
returns-then-kept-outputs c =
    let q = queue_at c.args.core.now.now.queues (cluster_size c.args.core.now.now) in
    let long : length c.outputs_from-outputs.result.now ≡ length q.entries = made_length q c.outputs_from-outputs.result.now c.outputs_from-outputs.ensures.kept in
    nothing_gained (codes "out") c.args.kept q c.args.text.now.items (omega arith)

pub returns : goal.returns
returns c =
    let q = queue_at c.args.core.now.now.queues (cluster_size c.args.core.now.now) in
    on_ok_weaker c.push_entry.result
    (λ pushed. gained_made (codes "out") c.args.kept c.index-outputs-kept.result.seq c.as_slice.result.now q c.outputs_from-outputs.result.now c.index-outputs-kept.result
    c.args.text.now.items c.extend_from_slice.new.self.items c.push_entry.new.text.items c.outputs_from-outputs.ensures.kept c.if-kept-outputs.false c.index-outputs-kept.is
    refl c.as_slice.ensures.bytes c.in_ok-extend_from_slice.ensures.items pushed) c.push_entry.ensures
