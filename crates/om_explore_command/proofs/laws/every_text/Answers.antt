use Rattle.om_explore_command.proofs.ExplorationLemmas.{text_of_run}
use Rattle.om_explore_command.proofs.laws.every_text.Goals as goal

pub returns : goal.returns
returns c cluster exploration text is all free = is.all all free.0 text (text_of_run cluster free.0 text free.1)
