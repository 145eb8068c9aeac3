use Rattle.om_stable.proofs.RecordLemmas.{get-with_all_below, get-with_all_at, get-with_all_above, with_all_from}
use Rattle.om_stable.proofs.laws.with_all_holds_all.Goals as goal

pub returns-clause-below : goal.returns-clause-below
returns-clause-below c = get-with_all_below

pub returns-clause-are_added : goal.returns-clause-are_added
returns-clause-are_added c = get-with_all_at

pub returns-clause-above : goal.returns-clause-above
returns-clause-above c = get-with_all_above

pub returns-clause-nothing_else : goal.returns-clause-nothing_else
returns-clause-nothing_else c = with_all_from
