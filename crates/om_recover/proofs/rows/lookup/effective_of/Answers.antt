use Rattle.om_recover.proofs.LookupLemmas.{nearest_is_effective, some_nearest}
use Rattle.om_recover.proofs.rows.lookup.effective_of.Goals as goal

pub unreachable-requires : goal.unreachable-requires
unreachable-requires c = some_nearest _ _ _ c.requires.in_order c.in-None.ensures c.requires.stable

pub returns : goal.returns
returns c = nearest_is_effective _ _ _ _ _ c.requires.in_order c.in-Some.ensures
