use Rattle.om_restart_laws.proofs.Runs.{runs_hold, runs_keep}
use Rattle.om_restart_laws.proofs.laws.runs_are_one.Goals as goal

pub returns-clause-holds : goal.returns-clause-holds
returns-clause-holds c = λ first last stops. runs_hold first stops last

pub returns-clause-released : goal.returns-clause-released
returns-clause-released c = λ first last stops. runs_keep first stops last
