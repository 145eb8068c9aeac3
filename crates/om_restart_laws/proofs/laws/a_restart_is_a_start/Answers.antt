use Rattle.om_restart_laws.proofs.Restarts.{goes_on, taken_up_at, whole_run}
use Rattle.om_restart_laws.proofs.laws.a_restart_is_a_start.Goals as goal

pub returns-clause-at : goal.returns-clause-at
returns-clause-at c = taken_up_at

pub returns-clause-on : goal.returns-clause-on
returns-clause-on c = goes_on

pub returns-clause-settled : goal.returns-clause-settled
returns-clause-settled c = whole_run
