use Rattle.std.proofs.Common.{◌≡◌, ℕ, List, [], ap, refl, sym, ◌∙◌, subst, ◌++◌, drop, length, replicate, append_assoc, string_bytes, codes}
use Rattle.std.proofs.lemmas.List.{drop_all}
use Rattle.om_recover.specs.Recoverable.{IsGreatest}
use Rattle.om_recover.specs.Offered.{offered}
use Rattle.om_commands.specs.Report.{offered_row, intervals_text, IsReportFrom}
use Rattle.om_commands.specs.declared.record_script.NoteLine.{NoteLine}
use Rattle.om_commands.proofs.ReportLemmas.{report_more}
use Rattle.om_commands.proofs.report.report.Goals as goal

pub loop-note-preserved : goal.loop-note-preserved
loop-note-preserved c =
    let state = c.loop-note.records.state in
    let rows = c.loop-note.records.rows in
    let after = c.answer_to-answer.new.records in
    let zeros : c.recovery-zeros.result ≡ replicate c.args.n 0 = c.recovery-zeros.ensures.state ∙ c.in_ok-records.ensures.state in
    let offer : offered c.args.n rows (offered_row (replicate c.args.n 0) c.note-item.result) c.answer_to-answer.result after.rows =
    subst (λ n. offered n rows (offered_row (replicate c.args.n 0) c.note-item.result) c.answer_to-answer.result after.rows) c.loop-note.invariant.places
    (subst (λ got. offered (length state) rows (offered_row got c.note-item.result) c.answer_to-answer.result after.rows) zeros c.answer_to-answer.ensures.answer) in
    let greatest : IsGreatest c.args.n after.rows after.state = subst (λ n. IsGreatest n after.rows after.state) c.loop-note.invariant.places c.answer_to-answer.ensures.greatest in
    let written : string_bytes c.write_state.new.text ≡ intervals_text after.state =
    c.in_ok-write_state.ensures state c.answer_to-answer.ensures.change c.loop-note.invariant.state in
    record {
      places = greatest.recoverable.places;
      state = written;
      told = report_more (IsReportFrom c.args.n c.in_ok-records.records.rows c.in_ok-records.records.state c.args.notes.now) c.args.n rows after.rows state after.state c.args.notes.now c.loop-note.note-index c.note-item.result c.answer_to-answer.result
          (string_bytes c.loop-note.text) (string_bytes c.push_str.new.self)
          c.loop-note-test.true c.note-item.is offer greatest c.answer_to-answer.ensures.change c.in_ok-push_answer.ensures.written
          (c.in_ok-push_str.ensures.bytes ∙ ap (λ text. string_bytes c.push_answer.new.text ++ text) (c.deref.ensures ∙ written) ∙ ap (λ text. text ++ intervals_text after.state) c.in_ok-push_answer.ensures.word)
          c.loop-note.invariant.told;
    }

pub returns : goal.returns
returns c =
    let end : List ℕ = codes "recovery" ++ intervals_text c.loop-note.records.state in
    let none : drop c.loop-note.note-index c.args.notes.now ≡ [] = drop_all c.loop-note.note-index c.args.notes.now c.loop-note-test.false in
    let told : IsReportFrom c.args.n c.in_ok-records.records.rows c.in_ok-records.records.state c.args.notes.now (string_bytes c.loop-note.text ++ end) =
    c.loop-note.invariant.told end
    (subst (λ (notes : List NoteLine). IsReportFrom c.args.n c.loop-note.records.rows c.loop-note.records.state notes end) (sym none) refl) in
    let text : string_bytes c.push_str-3.new.self ≡ string_bytes c.loop-note.text ++ end =
    c.in_ok-push_str-3.ensures.bytes ∙ ap (λ text. string_bytes c.push_str-2.new.self ++ text) (c.deref-2.ensures ∙ c.loop-note.invariant.state)
    ∙ ap (λ text. text ++ intervals_text c.loop-note.records.state) c.in_ok-push_str-2.ensures.bytes
    ∙ append_assoc (string_bytes c.loop-note.text) (codes "recovery") (intervals_text c.loop-note.records.state) in (
      c.in_ok-records.records.rows,
      c.in_ok-records.ensures.rows,
      subst (λ state. IsReportFrom c.args.n c.in_ok-records.records.rows state c.args.notes.now (string_bytes c.push_str-3.new.self)) c.in_ok-records.ensures.state
          (subst (IsReportFrom c.args.n c.in_ok-records.records.rows c.in_ok-records.records.state c.args.notes.now) (sym text) told),
    )
