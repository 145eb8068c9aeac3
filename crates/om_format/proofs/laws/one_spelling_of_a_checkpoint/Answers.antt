use Rattle.om_format.specs.Checkpoints.{checkpoint_format, checkpoint_values}
use Rattle.om_format.proofs.Formats.{one_spelling}
use Rattle.om_format.proofs.laws.one_spelling_of_a_checkpoint.Goals as goal

pub returns : goal.returns
returns c = λ version r a b p q. one_spelling checkpoint_format (checkpoint_values version r) a b p.fields q.fields
