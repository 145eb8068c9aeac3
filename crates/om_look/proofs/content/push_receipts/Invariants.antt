use Rattle.std.proofs.Common.{◌≡◌, ◌++◌, ℕ, List, take, string_bytes}
use Rattle.om_stable.specs.Content.{rows_of}
use Rattle.om_look.specs.Lines.{AreLines, IsReceiptLine}
use Rattle.om_look.proofs.content.push_receipts.Given as goal

-- the lines so far
abbrev pub invariant-loop-x : goal.invariant-loop-x
invariant-loop-x l =
    (lines : List ℕ) × AreLines IsReceiptLine (rows_of (take l.x-index l.receipts)) lines
    × (string_bytes l.text ≡ string_bytes l.initial.text ++ lines)
