use Rattle.std.specs.Prelude.{IsTrue}
use Rattle.om_run_commands.proofs.RunLemmas.{told_of_report}
use Rattle.om_run_commands.proofs.recorded.run_recorded.Goals as goal

pub returns-clause-text : goal.returns-clause-text
returns-clause-text g c =
    told_of_report c.args.form ((store : g.row.O-Store.Denot) → IsTrue (g.O.Store.Stable.is_clean store)) c.args.script.now c.in_ok-report.report c.write_report.result
    (g.W.Write.contents c.args.writer.now) (g.W.Write.contents c.write_report.new.writer) c.in_ok-report.ensures.report
    c.write_report.ensures.text c.write_report.ensures.statuses
