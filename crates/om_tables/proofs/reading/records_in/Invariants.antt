use Rattle.std.proofs.Common.{◌≡◌, map, take}
use Rattle.om_stable.specs.Content.{rows_of}
use Rattle.om_tables.specs.steps.Statements.{shown_entry}
use Rattle.om_tables.proofs.reading.records_in.Given as goal

abbrev pub invariant-loop-row : goal.invariant-loop-row
invariant-loop-row l = rows_of l.found.items ≡ map shown_entry (take l.row-index l.rows)
