-- The tables of a ledger.
use Rattle.std.proofs.Common.{◌≡◌, inl, inr, ℕ, refl, sym, ◌∙◌, ap, length}
use Rattle.std.specs.FinMap.{empty, get, get-empty}
use Rattle.std.specs.Ordering.{nat_cmp}
use Rattle.std.specs.Prelude.{IsSome, is_some}
use Rattle.std.proofs.lemmas.Bool.{both_ways}
use Rattle.om_stable.specs.Batches.{Collides}
use Rattle.om_stable.specs.Content.{Content, IsTaken}
use Rattle.om_stable.specs.declared.batch.WriteBatch.{WriteBatch}
use Rattle.om_stable.specs.Ledger.{LedgerContent, blank, in_table}
use Rattle.om_stable.specs.declared.ledger.LedgerTable.{LedgerTable}
use Rattle.om_stable.specs.declared.ledger.LedgerTable.TheVariants.{Outputs, Senders, About}

-- each table of a blank ledger is empty
pub table_of_blank : (table : LedgerTable) → in_table blank table ≡ empty
table_of_blank Outputs = refl
table_of_blank Senders = refl
table_of_blank About = refl

none_taken : (first n : ℕ) → IsTaken empty first n → ⊥
none_taken first n h = both_ways (is_some (get empty h.0)) (ap is_some (get-empty nat_cmp h.0)) h.3

-- what collides where the tables are blank collides by its records
pub collides_by_records : (b : WriteBatch) (held : Content) (tables : LedgerContent) → Collides b held blank → Collides b held tables
collides_by_records b held tables h = elim h [
  | inl receipts ↦ inl receipts
  | inr rest ↦ elim rest [
    | inl checkpoint ↦ inr (inl checkpoint)
    | inr entered ↦ absurd (elim entered [
      | inl outputs ↦ none_taken b.outputs.first (length b.outputs.recs.now) outputs
      | inr senders ↦ none_taken b.senders.first (length b.senders.recs.now) senders
    ])
  ]
]
