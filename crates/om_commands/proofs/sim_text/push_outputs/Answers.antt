use Rattle.std.proofs.Common.{◌≡◌, ◌++◌, ◌∙◌, ap, map, string_bytes}
use Rattle.om_manager.specs.Outputs.{held_of}
use Rattle.om_commands.specs.SimText.{output_line}
use Rattle.om_commands.specs.steps.Lines.{bytes_at}
use Rattle.om_commands.proofs.SimLemmas.{held-bytes}
use Rattle.om_commands.proofs.TextLemmas.{text_grows}
use Rattle.om_commands.proofs.sim_text.push_outputs.Goals as goal

pub loop-number-preserved : goal.loop-number-preserved
loop-number-preserved c =
    let before = string_bytes c.loop-number.text in
    let name = c.args.name.now in
    let number = c.loop-number.number in
    let outputs = c.args.outputs.now in
    let bytes : c.as_slice.result.now ≡ bytes_at (map held_of outputs) number =
    held-bytes outputs number c.index-outputs-number.result c.as_slice.result.now c.loop-number-test.true c.as_slice.ensures in
    text_grows (λ k. output_line c.args.form name k (bytes_at (map held_of outputs) k)) number (string_bytes c.args.text.now) before
    (string_bytes c.push_output.new.text) c.loop-number.invariant
    (c.in_ok-push_output.ensures ∙ ap (λ bs. before ++ output_line c.args.form name number bs) bytes)
