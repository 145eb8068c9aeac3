use Rattle.std.proofs.Common.{◌≡◌, ◌+◌, take, drop}
use Rattle.om_stable.specs.Content.{rows_of}
use Rattle.om_process.specs.steps.Rows.{AreGapless, Ascend}
use Rattle.om_process.proofs.repeating.missing.Given as goal

abbrev pub invariant-loop-y : goal.invariant-loop-y
invariant-loop-y l = record {
  gapless : AreGapless l.after (rows_of (take l.y-index l.found.items));
  last : l.last ≡ l.after + l.y-index;
  ascend : Ascend l.after l.x (rows_of l.found.items) → Ascend l.last l.x (rows_of (drop l.y-index l.found.items));
}
