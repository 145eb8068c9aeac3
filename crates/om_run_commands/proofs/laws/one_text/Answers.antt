use Rattle.om_run_commands.proofs.CheckLemmas.{one_text}
use Rattle.om_run_commands.proofs.laws.one_text.Goals as goal

pub returns : goal.returns
returns c = one_text
