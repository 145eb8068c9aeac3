use Rattle.std.proofs.Common.{◌∙◌, sym, subst, string_bytes}
use Rattle.om_commands.specs.Report.{IsReport}
use Rattle.om_commands.proofs.frontier.answer.Goals as goal

pub returns-clause-text : goal.returns-clause-text
returns-clause-text c = (
  c.in-Some.n,
  sym c.processes.ensures.number ∙ c.in-Some.is,
  subst (λ notes. IsReport c.in-Some.n notes (string_bytes c.in_ok-report.field-0)) c.notes.ensures c.in_ok-report.ensures,
)
