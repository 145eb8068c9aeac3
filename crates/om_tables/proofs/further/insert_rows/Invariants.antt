use Rattle.std.proofs.Common.{◌≡◌}
use Rattle.om_tables.proofs.further.insert_rows.Given as goal

abbrev pub invariant-loop-k : goal.invariant-loop-k
invariant-loop-k g l = l.tx.conn.ghost_name ≡ l.fn.tx.conn.ghost_name
