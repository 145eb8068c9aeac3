use Rattle.om_machine.proofs.Runs.{goes_count, goes_one, goes_on}
use Rattle.om_machine.proofs.laws.runs_go_on.Goals as goal

pub returns : goal.returns
returns c = record { one = goes_one; counted = goes_count; joined = goes_on }
