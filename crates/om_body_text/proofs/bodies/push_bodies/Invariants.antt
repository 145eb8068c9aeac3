use Rattle.std.proofs.Common.{◌≡◌, ◌++◌, ℕ, List, take, string_bytes}
use Rattle.om_body_text.specs.Bodies.{IsBodyLine}
use Rattle.om_look.specs.Lines.{AreLines}
use Rattle.om_stable.specs.Content.{rows_of}
use Rattle.om_body_text.proofs.bodies.push_bodies.Given as goal

-- the lines so far
abbrev pub invariant-loop-x : goal.invariant-loop-x
invariant-loop-x l =
    (lines : List ℕ) × AreLines (IsBodyLine l.form) (rows_of (take l.x-index l.receipts)) lines
    × (string_bytes l.text ≡ string_bytes l.initial.text ++ lines)
