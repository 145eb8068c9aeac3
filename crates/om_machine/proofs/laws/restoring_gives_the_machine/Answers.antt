use Rattle.om_machine.proofs.Keeping.{restored_parts, first_zero}
use Rattle.om_machine.proofs.laws.restoring_gives_the_machine.Goals as goal

pub returns : goal.returns
returns c = record { parts = restored_parts; first = first_zero }
