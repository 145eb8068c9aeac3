-- What a store keeps beside its records, so that a run can be taken up from it after a crash of the whole program.
use Rattle.std.specs.Prelude.{ℕ, List}
use Rattle.std.specs.FinMap.{empty}
use Rattle.om_stable.specs.Content.{Records, Content, with_all}
use Rattle.om_stable.specs.declared.ledger.LedgerTable.{LedgerTable}
use Rattle.om_stable.specs.declared.ledger.LedgerTable.TheVariants.{Outputs, Senders, About}

-- the three tables of a ledger: to each number that has one, its bytes
pub record LedgerContent : Type 0 where
  pub outputs : Records
  pub senders : Records
  pub about : Records

-- a ledger of which each table is empty
abbrev pub blank : LedgerContent
blank = record { outputs = empty; senders = empty; about = empty }

-- the records of one of the tables
abbrev pub in_table : LedgerContent → LedgerTable → Records
in_table held Outputs = held.outputs
in_table held Senders = held.senders
in_table held About = held.about

-- the ledger with these records added to one of its tables at first, first + 1, ..
abbrev pub with_rows : LedgerContent → LedgerTable → ℕ → List (List ℕ) → LedgerContent
with_rows held Outputs first rows = record held { outputs = with_all held.outputs first rows }
with_rows held Senders first rows = record held { senders = with_all held.senders first rows }
with_rows held About first rows = record held { about = with_all held.about first rows }

-- a store with its ledger, as one value
pub record LedgerStore : Type 0 where
  pub content : Content
  pub ledger : LedgerContent
