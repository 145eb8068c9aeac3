use Rattle.om_program.proofs.LookLemmas.{no_memory}
use Rattle.om_program.proofs.looking.look_at.Goals as goal

pub returns-in-Err-CannotWrite-clause-error : goal.returns-in-Err-CannotWrite-clause-error
returns-in-Err-CannotWrite-clause-error g c = no_memory c.args.look
