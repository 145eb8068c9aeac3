use Rattle.om_restart_laws.proofs.Worlds.{taken_up}
use Rattle.om_restart_laws.proofs.laws.a_start_goes_on.Goals as goal

pub returns : goal.returns
returns c = taken_up
