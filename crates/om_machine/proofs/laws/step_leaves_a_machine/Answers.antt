use Rattle.om_machine.proofs.Lasting.{step_lasts}
use Rattle.om_machine.proofs.laws.step_leaves_a_machine.Goals as goal

pub returns : goal.returns
returns c = step_lasts
