use Rattle.std.specs.Prelude.{IsTrue}
use Rattle.om_scripts.specs.Programs.{programs_of}
use Rattle.om_run_commands.proofs.RunLemmas.{report_of_run}
use Rattle.om_run_commands.proofs.recorded.report_of.Goals as goal

pub returns-in-Ok-ended-clause-report : goal.returns-in-Ok-ended-clause-report
returns-in-Ok-ended-clause-report g c =
    let run = c.run_and_record-ended in
    report_of_run ((store : g.row.O-Store.Denot) → IsTrue (g.O.Store.Stable.is_clean store)) (programs_of c.args.script.now.cluster)
    c.in-Ok.config.images.items run.result.0 c.in-Ok-ended.report c.in-Ok-ended.is c.in-Ok.ensures.programs
    run.ensures.report
