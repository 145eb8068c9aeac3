use Rattle.om_format.proofs.Checkpoints as checkpoints
use Rattle.om_format.proofs.laws.checkpoint_or_fault.Goals as goal

pub returns : goal.returns
returns c = λ bytes fits. checkpoints.checkpoint_or_fault bytes fits
