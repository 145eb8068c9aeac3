use Rattle.om_process.proofs.Runs.{waits_once}
use Rattle.om_process.proofs.Replays.{turns_to_wait}
use Rattle.om_process.proofs.laws.waits_once.Goals as goal

pub returns-clause-one : goal.returns-clause-one
returns-clause-one c = waits_once

pub returns-clause-on_the_way : goal.returns-clause-on_the_way
returns-clause-on_the_way c = turns_to_wait
