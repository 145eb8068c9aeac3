-- The text of what a store keeps beside its records.
use Rattle.std.specs.Prelude.{◌≡◌, ℕ, List, ◌++◌}
use Rattle.std.specs.FinMap.{entries}
use Rattle.om_ledger_text.specs.Lines.{IsLineIn}
use Rattle.om_look.specs.Lines.{AreLines}
use Rattle.om_stable.specs.Ledger.{LedgerContent}
use Rattle.om_stable.specs.declared.ledger.LedgerTable.TheVariants.{Outputs, Senders, About}

-- a line for each row that says what the store is of, for each of senders, and for each output
pub record AreShown (about senders outputs : List (ℕ × List ℕ)) (text : List ℕ) : Type 0 where
  pub about_text : List ℕ
  pub about_lines : AreLines (IsLineIn About) about about_text
  pub senders_text : List ℕ
  pub senders_lines : AreLines (IsLineIn Senders) senders senders_text
  pub outputs_text : List ℕ
  pub output_lines : AreLines (IsLineIn Outputs) outputs outputs_text
  pub is_text : text ≡ about_text ++ senders_text ++ outputs_text

-- the tables of a ledger, row by row
abbrev pub IsLedgerShown : LedgerContent → List ℕ → Type 0
IsLedgerShown held text = AreShown (entries held.about) (entries held.senders) (entries held.outputs) text
