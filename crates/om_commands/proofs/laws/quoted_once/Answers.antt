use Rattle.om_commands.proofs.QuotedLemmas.{quoted_once}
use Rattle.om_commands.proofs.laws.quoted_once.Goals as goal

pub returns : goal.returns
returns c = quoted_once
