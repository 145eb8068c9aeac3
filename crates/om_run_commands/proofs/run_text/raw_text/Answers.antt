use Rattle.std.proofs.Common.{◌++◌, [], ◌∙◌, ap, map, if◌then◌else◌}
use Rattle.std.specs.Prelude.{slice_index_or}
use Rattle.std.specs.Str.{bytes_eq}
use Rattle.om_manager.specs.Outputs.{held_of}
use Rattle.om_commands.specs.SimText.{name_at}
use Rattle.om_commands.proofs.TextLemmas.{text_grows}
use Rattle.om_run_commands.specs.RunText.{bytes_of}
use Rattle.om_run_commands.proofs.RunLemmas.{outputs-at}
use Rattle.om_run_commands.proofs.run_text.raw_text.Goals as goal

pub loop-p-preserved : goal.loop-p-preserved
loop-p-preserved c =
    let cluster = c.args.programs.now in
    let released = c.args.released.now in
    let wanted = c.args.name.now in
    let before = c.loop-p.bytes.items in
    let own = map held_of c.deref.result.now in
    text_grows
    (λ p. if bytes_eq (name_at cluster p) wanted then bytes_of (slice_index_or (map (λ outputs. map held_of outputs.items) released) p []) else [])
    c.loop-p.p [] before c.add_named.new.bytes.items c.loop-p.invariant
    (c.in_ok-add_named.ensures
    ∙ ap (λ name. before ++ (if bytes_eq name wanted then bytes_of own else [])) c.name_of.ensures
    ∙ ap (λ held. before ++ (if bytes_eq (name_at cluster c.loop-p.p) wanted then bytes_of held else []))
    (outputs-at released c.loop-p.p c.index-released-p.result c.deref.result.now c.loop-p-test.true
    c.deref.ensures.value c.index-released-p.is))
