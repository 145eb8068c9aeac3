use Rattle.std.proofs.Common.{◌≡◌, ℕ, List, ◌++◌, drop, length, string_bytes}
use Rattle.om_commands.specs.Report.{intervals_text, IsReportFrom}
use Rattle.om_commands.proofs.report.report.Given as goal

-- the text so far and that of the notes to come is the text of all notes
abbrev pub invariant-loop-note : goal.invariant-loop-note
invariant-loop-note l = record {
  places : length l.records.state ≡ l.n;
  state : string_bytes l.state ≡ intervals_text l.records.state;
  told : (rest : List ℕ) → IsReportFrom l.n l.records.rows l.records.state (drop l.note-index l.notes) rest
      → IsReportFrom l.n l.initial.records.rows l.initial.records.state l.notes (string_bytes l.text ++ rest);
}
