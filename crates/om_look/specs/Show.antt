-- The text of what a store holds.
use Rattle.std.specs.Prelude.{◌≡◌, ℕ, ◌≤◌, List, ◌++◌, filter, nat_le}
use Rattle.std.specs.FinMap.{entries}
use Rattle.om_stable.specs.Content.{Content, between}
use Rattle.om_process.specs.Stored.{anyone, CanReplay}
use Rattle.om_process.specs.declared.limits.TheConstants.{LAST_INTERVAL}
use Rattle.om_look.specs.Lines.{AreLines, IsCheckpointLine, IsReceiptLine}
use Rattle.om_look.specs.Spans.{AreApart, IsCovered, spans_text}
use Rattle.om_look.specs.declared.spans.Span.{Span}

-- the ranges are those of the intervals to which the content can be replayed, each as long as can be
pub record AreReplayable (held : Content) (spans : List Span) : Type 0 where
  pub apart : AreApart 0 spans
  pub replayed : (y : ℕ) → IsCovered spans y → CanReplay anyone held y
  pub covered : (y : ℕ) → y ≤ LAST_INTERVAL → CanReplay anyone held y → IsCovered spans y

-- a line for each checkpoint, for each receipt (the first interval that one begins is 1), and for each range of intervals to
-- which the content can be replayed
pub record IsShown (held : Content) (text : List ℕ) : Type 0 where
  pub checkpoints : List ℕ
  pub checkpoint_lines : AreLines IsCheckpointLine (filter (λ e. nat_le e.0 LAST_INTERVAL) (entries held.checkpoints)) checkpoints
  pub receipts : List ℕ
  pub receipt_lines : AreLines IsReceiptLine (between held.receipts 0 LAST_INTERVAL) receipts
  pub spans : List Span
  pub replayable : AreReplayable held spans
  pub is_text : text ≡ checkpoints ++ receipts ++ spans_text spans
