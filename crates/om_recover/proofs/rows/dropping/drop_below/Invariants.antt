use Rattle.std.specs.BTreeMap.{btree_map_len}
use Rattle.om_recover.proofs.DroppingLemmas.{AreLeft}
use Rattle.om_recover.proofs.rows.dropping.drop_below.Given as goal

abbrev pub invariant-loop-x : goal.invariant-loop-x
invariant-loop-x g l = record { left : AreLeft l.fn.entries.entries l.entries.entries l.fn.pid l.fn.from }

abbrev pub decreases-loop-x : goal.decreases-loop-x
decreases-loop-x g l = btree_map_len l.entries
