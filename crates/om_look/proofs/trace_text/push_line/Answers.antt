use Rattle.std.proofs.Common.{◌++◌, ◌∙◌, ap}
use Rattle.std.specs.Prelude.{decimal}
use Rattle.om_isa.specs.Text.{text_of}
use Rattle.om_look.specs.Trace.{answer_text, word_text}
use Rattle.om_look.specs.steps.Writes.{line_text, writes_of, written_text}
use Rattle.om_look.proofs.TraceLemmas.{line_grows}
use Rattle.om_look.proofs.trace_text.push_line.Goals as goal

pub returns : goal.returns
unfolding line_text
returns c =
    let b = c.args.before.now in
    let n = c.args.after.now in
    line_grows c.args.text.now.items (decimal b.count) (word_text b.pc) (word_text b.word) (text_of b.inst) (written_text (writes_of b.inst) b.address n) (answer_text b.event n)
    c.push_fetched.new.text.items c.push_written.new.text.items c.push_answer.new.text.items c.push.new.self.items
    c.in_ok-push_fetched.ensures (c.in_ok-push_written.ensures ∙ ap (λ what. c.push_fetched.new.text.items ++ written_text what b.address n) c.what_it_writes.ensures) c.in_ok-push_answer.ensures c.in_ok-push.ensures.items
