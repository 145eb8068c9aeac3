use Rattle.om_recover.proofs.FlatLemmas.{no_logs}
use Rattle.om_recover.proofs.rows.run_logs.RunLogs.new.Goals as goal

pub invariant_of-result : goal.invariant_of-result
invariant_of-result c = no_logs _ c.new.ensures.items
