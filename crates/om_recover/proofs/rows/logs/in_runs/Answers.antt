use Rattle.om_recover.proofs.LogsLemmas.{among_runs}
use Rattle.om_recover.proofs.RunLemmas.{read_at}
use Rattle.om_recover.proofs.rows.logs.in_runs.Goals as goal

pub returns-in-Some-in_run : goal.returns-in-Some-in_run
returns-in-Some-in_run c =
    let read = c.in-Some.ensures.lookup in
    among_runs c.args.runs.now _ _ c.in-Some.run'.now _ (read_at c.args.runs.now _ c.index.result c.in-Some.run'.now c.index.ensures.place read.0 read.1) c.in-Some-in_run.ensures
