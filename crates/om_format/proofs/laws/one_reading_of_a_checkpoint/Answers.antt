use Rattle.om_format.proofs.Checkpoints.{one_checkpoint}
use Rattle.om_format.proofs.laws.one_reading_of_a_checkpoint.Goals as goal

pub returns : goal.returns
returns c = λ v w r s bytes p q. one_checkpoint bytes v w r s p q
