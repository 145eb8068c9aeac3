use Rattle.om_machine.proofs.Keeping.{loaded_machine}
use Rattle.om_machine.proofs.laws.loading_makes_a_machine.Goals as goal

pub returns : goal.returns
returns c = loaded_machine
