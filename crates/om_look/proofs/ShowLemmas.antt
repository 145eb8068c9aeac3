-- The text of a content, from what is found and read.
use Rattle.std.proofs.Common.{◌≡◌, ℕ, List, [], ◌∷◌, ◌++◌, refl, sym, ap, ◌∙◌, subst, append_assoc, append-nil, arith}
use Rattle.std.specs.Prelude.{None, string_bytes}
use Rattle.om_stable.specs.Content.{Content, between}
use Rattle.om_process.specs.declared.limits.TheConstants.{LAST_INTERVAL}
use Rattle.om_look.specs.Lines.{AreLines, IsCheckpointLine, IsReceiptLine}
use Rattle.om_look.specs.Show.{IsShown}
use Rattle.om_look.specs.declared.gathering.Found.{Found}
use Rattle.om_look.specs.steps.Found.{AreFound, AreOf, IsTextOf, lines_text}

-- a line more
pub lines_more : {Row : Type 0} (IsLine : Row → List ℕ → Type 0) (rows : List Row) (text : List ℕ) (row : Row) (line : List ℕ) → AreLines IsLine rows text → IsLine row line → AreLines IsLine (rows ++ row ∷ []) (text ++ line)
lines_more IsLine [] text row line lines is = (line, [], is, refl, ap (λ t. t ++ line) lines ∙ sym (append-nil line))
lines_more IsLine (first ∷ rows) text row line lines is =
    (lines.0, lines.1 ++ line, lines.2, lines_more IsLine rows lines.1 row line lines.3 is, ap (λ t. t ++ line) lines.4 ∙ append_assoc lines.0 lines.1 line)

lines_of : (rows : List (ℕ × List ℕ)) (fs : List Found) → AreOf rows fs → AreLines IsCheckpointLine rows (lines_text fs)
lines_of [] [] are = refl
lines_of [] (f ∷ fs) are = absurd are
lines_of (row ∷ rows) [] are = absurd are
lines_of (row ∷ rows) (f ∷ fs) are = (string_bytes f.line, lines_text fs, are.0, lines_of rows fs are.1, refl)

pub shown : (held : Content) (fs : List Found) (rows : List (ℕ × List ℕ)) (text : List ℕ) → AreFound held None fs → rows ≡ between held.receipts 0 LAST_INTERVAL → IsTextOf fs rows text → IsShown held text
shown held fs rows text a found t = record {
  checkpoints = lines_text fs;
  checkpoint_lines = subst (λ rows. AreLines IsCheckpointLine rows (lines_text fs)) (sym a.all) (lines_of a.rows fs a.are_of);
  receipts = t.receipts;
  receipt_lines = subst (λ rows. AreLines IsReceiptLine rows t.receipts) found t.lines;
  spans = t.spans;
  replayable = record {
    apart = t.apart a.ordered;
    replayed = λ y covered. a.replayed y ((t.covered a.ordered y).0 covered);
    covered = λ y high can. (t.covered a.ordered y).1 (a.covered y (omega arith) high can);
  };
  is_text = t.is_text;
}
