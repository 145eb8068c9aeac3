use Rattle.om_machine.proofs.Stepping.{steps-next, next-steps}
use Rattle.om_machine.proofs.laws.step_is_a_function.Goals as goal

pub returns : goal.returns
returns c = λ m e n. (steps-next m e n, next-steps m e n)
