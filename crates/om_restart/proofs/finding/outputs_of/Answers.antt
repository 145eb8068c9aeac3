use Rattle.std.proofs.Common.{rules, ◌≡◌, ◌<◌, length, get_or}
use Rattle.om_restart.specs.Outputs.{output_bytes}
use Rattle.om_restart.proofs.TableLemmas.{outputs_more}
use Rattle.om_restart.proofs.finding.outputs_of.Goals as goal

pub loop-seq-preserved : goal.loop-seq-preserved
loop-seq-preserved c =
    let rows = c.args.rows.now in let item = c.loop-seq-item.result in let output = c.in-Some.output in
    let within : c.loop-seq.seq-index < length rows = search rules in
    let here : item ≡ get_or rows c.loop-seq.seq-index item = search rules in
    let number : output.seq ≡ item.0 = search rules in
    let bytes : item.1.items ≡ output_bytes output = search rules in
    rw c.in_ok-push-in-Some.ensures.items (outputs_more rows c.loop-seq.seq-index item c.loop-seq.outputs.items output within here c.loop-seq.invariant number bytes)
