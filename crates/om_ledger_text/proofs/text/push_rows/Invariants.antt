use Rattle.std.proofs.Common.{◌≡◌, ◌++◌, ℕ, List, take, string_bytes}
use Rattle.om_ledger_text.specs.Lines.{IsLineIn}
use Rattle.om_look.specs.Lines.{AreLines}
use Rattle.om_stable.specs.Content.{rows_of}
use Rattle.om_ledger_text.proofs.text.push_rows.Given as goal

-- the lines so far
abbrev pub invariant-loop-number : goal.invariant-loop-number
invariant-loop-number l =
    (lines : List ℕ) × AreLines (IsLineIn l.table) (rows_of (take l.number-index l.rows)) lines
    × (string_bytes l.text ≡ string_bytes l.initial.text ++ lines)
