use Rattle.std.specs.Prelude.{IsTrue}
use Rattle.om_run_commands.proofs.RunLemmas.{raw_of_report}
use Rattle.om_run_commands.proofs.run.run_raw.Goals as goal

pub returns-clause-text : goal.returns-clause-text
returns-clause-text g c =
    raw_of_report c.args.name.now ((store : g.row.O-Store.Denot) → IsTrue (g.O.Store.Stable.is_clean store)) c.args.script.now c.programs.result.now
    c.in_ok-report.report c.deref.result.now c.in_ok-text.text.items c.deref-2.result.now
    (g.W.Write.contents c.args.writer.now) (g.W.Write.contents c.write_answer.new.writer) c.in_ok-report.ensures.report c.programs.ensures
    c.deref.ensures.value c.in_ok-text.ensures c.deref-2.ensures.value c.in_ok-write_answer.ensures.text
