use Rattle.om_world.proofs.TrueRows.{rows_are_true}
use Rattle.om_restart_laws.proofs.laws.rows_are_true.Goals as goal

pub returns : goal.returns
returns c = rows_are_true
