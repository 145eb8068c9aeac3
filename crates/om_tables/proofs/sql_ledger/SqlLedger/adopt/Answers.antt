use Rattle.std.proofs.Common.{rules, sym, IsTrue}
use Rattle.om_tables.specs.Store.{HasFiveTables}
use Rattle.om_tables.proofs.sql_ledger.SqlLedger.adopt.Goals as goal

pub returns-then-not-has_five_tables-clause-others : goal.returns-then-not-has_five_tables-clause-others
returns-then-not-has_five_tables-clause-others g c =
    λ five. let h : IsTrue c.has_five_tables.result = c.has_five_tables.ensures.1 (rw c.schema.ensures.value five) in search rules

pub returns-clause-tables : goal.returns-clause-tables
returns-clause-tables g c =
    let h : IsTrue c.has_five_tables.result = search rules in
    let five : HasFiveTables c.schema.result.now = c.has_five_tables.ensures.0 h in
    rw (sym c.schema.ensures.value) five
