use Rattle.std.proofs.Common.{◌++◌, ◌∙◌, ap, map, string_bytes}
use Rattle.om_manager.specs.Outputs.{held_of}
use Rattle.om_manager.specs.State.{released_by}
use Rattle.om_commands.specs.SimText.{name_at, outputs_text}
use Rattle.om_commands.specs.steps.Lines.{released_text}
use Rattle.om_commands.proofs.TextLemmas.{text_grows}
use Rattle.om_commands.proofs.sim_text.push_released.Goals as goal

pub loop-p-preserved : goal.loop-p-preserved
loop-p-preserved c =
    let before = string_bytes c.loop-p.text in
    let name = name_at c.args.programs.now c.loop-p.p in
    let outputs = map held_of c.released.result.now in
    text_grows (released_text c.args.form c.args.programs.now c.args.manager.now) c.loop-p.p (string_bytes c.args.text.now) before
    (string_bytes c.push_outputs.new.text) c.loop-p.invariant
    (c.in_ok-push_outputs.ensures
    ∙ ap (λ name. before ++ outputs_text c.args.form name outputs) c.name_of-name.ensures
    ∙ ap (λ os. before ++ outputs_text c.args.form name os) c.released.ensures.outputs
    ∙ ap (λ p. before ++ outputs_text c.args.form name (released_by c.args.manager.now p)) c.at.ensures)
