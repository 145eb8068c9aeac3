use Rattle.std.proofs.Common.{[], ◌++◌, ◌∙◌, ap, map, string_bytes}
use Rattle.std.specs.Prelude.{slice_index_or}
use Rattle.om_manager.specs.Outputs.{held_of}
use Rattle.om_commands.specs.SimText.{name_at, outputs_text}
use Rattle.om_commands.proofs.TextLemmas.{text_grows}
use Rattle.om_run_commands.proofs.RunLemmas.{outputs-at}
use Rattle.om_run_commands.proofs.run_text.push_released.Goals as goal

pub loop-p-preserved : goal.loop-p-preserved
loop-p-preserved c =
    let cluster = c.args.programs.now in
    let released = c.args.released.now in
    let before = string_bytes c.loop-p.text in
    let name = name_at cluster c.loop-p.p in
    text_grows (λ p. outputs_text c.args.form (name_at cluster p) (slice_index_or (map (λ outputs. map held_of outputs.items) released) p []))
    c.loop-p.p (string_bytes c.args.text.now) before (string_bytes c.push_outputs.new.text) c.loop-p.invariant
    (c.in_ok-push_outputs.ensures
    ∙ ap (λ name. before ++ outputs_text c.args.form name (map held_of c.deref.result.now)) c.name_of.ensures
    ∙ ap (λ held. before ++ outputs_text c.args.form name held)
    (outputs-at released c.loop-p.p c.index-released-p.result c.deref.result.now c.loop-p-test.true
    c.deref.ensures.value c.index-released-p.is))
