use Rattle.std.proofs.Common.{ℕ, List, ◌∙◌, ap, sym, string_bytes}
use Rattle.om_draw_command.specs.steps.Counting.{count_within}
use Rattle.om_draw_command.proofs.DrawLemmas.{error_of_drawing, few_within, is_drawn}
use Rattle.om_draw_command.proofs.draw.picture_of.Goals as goal

pub returns-clause-text : goal.returns-clause-text
returns-clause-text g c =
    let count = c.count_within-count.ensures
    ∙ ap (λ (ls : List ℕ). count_within ls c.args.window.to) (c.deref.ensures.value ∙ sym c.deref-2.ensures.value) in
    is_drawn string_bytes (g.R.Read.remaining c.args.reader.now) c.in_ok-input.input.bytes.items c.in_ok-input.input.script
    c.deref-2.result.now c.args.window.from c.args.window.to c.count_within-count.result c.draw_script.result c.in_ok-input.ensures.script
    (c.deref-2.ensures.value ∙ c.in_ok-lines.ensures) count c.draw_script.ensures.text

pub returns-clause-error : goal.returns-clause-error
returns-clause-error g c =
    error_of_drawing (g.R.Read.remaining c.args.reader.now) c.in_ok-input.input.bytes.items c.in_ok-input.input.script c.draw_script.result
    c.in_ok-input.ensures.script c.draw_script.ensures.error

pub draw_script-requires : goal.draw_script-requires
draw_script-requires g c =
    few_within c.in_ok-input.input.bytes.items c.deref.result.now c.args.window.to c.count_within-count.result _
    (c.deref.ensures.value ∙ c.in_ok-lines.ensures) c.in_ok-input.ensures.within c.count_within-count.ensures
