use Rattle.om_process.proofs.Going.{counts_turns}
use Rattle.om_process.proofs.laws.turns_count.Goals as goal

pub returns : goal.returns
returns c = counts_turns
