use Rattle.std.proofs.Common.{◌≡◌, take}
use Rattle.om_stable.specs.Content.{rows_of}
use Rattle.om_tables.proofs.caching_ledger.copied.Given as goal

abbrev pub invariant-loop-row : goal.invariant-loop-row
invariant-loop-row l = rows_of l.copy.items ≡ rows_of (take l.row-index l.rows)
