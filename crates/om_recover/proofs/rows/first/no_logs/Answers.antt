use Rattle.om_recover.specs.declared.rows.trees.Logs.{Logs}
use Rattle.om_recover.proofs.RunPartLemmas.{none_held}
use Rattle.om_recover.proofs.rows.first.no_logs.Goals as goal

pub returns : goal.returns
returns c =
    let logs : Logs = record { runs = c.in_ok-runs.runs; others = c.new.result } in
    none_held logs c.in_ok-runs.ensures c.new.ensures.ordered c.new.ensures.empty
