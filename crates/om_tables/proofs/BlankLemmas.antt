-- The tables of a store that keeps nothing beside its records.
use Rattle.std.proofs.Common.{◌≡◌, refl}
use Rattle.std.specs.FinMap.{empty}
use Rattle.om_stable.specs.Ledger.{blank, in_table}
use Rattle.om_stable.specs.declared.ledger.LedgerTable.{LedgerTable}
use Rattle.om_stable.specs.declared.ledger.LedgerTable.TheVariants.{Outputs, Senders, About}

-- each table of a blank ledger is empty
pub table_of_blank : (table : LedgerTable) → in_table blank table ≡ empty
table_of_blank Outputs = refl
table_of_blank Senders = refl
table_of_blank About = refl
