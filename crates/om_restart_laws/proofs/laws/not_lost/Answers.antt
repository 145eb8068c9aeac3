use Rattle.om_world.proofs.Losing.{not_lost}
use Rattle.om_restart_laws.proofs.laws.not_lost.Goals as goal

pub returns : goal.returns
returns c = not_lost
