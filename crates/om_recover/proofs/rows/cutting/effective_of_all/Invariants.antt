use Rattle.std.proofs.Common.{◌≡◌, ℕ, ◌<◌, length, slice_index}
use Rattle.om_recover.specs.steps.Held.{held}
use Rattle.om_recover.specs.Cutting.{IsEffective}
use Rattle.om_recover.proofs.rows.cutting.effective_of_all.Given as goal

abbrev pub invariant-loop-p : goal.invariant-loop-p
invariant-loop-p l = record {
  places : length l.checkpoints ≡ length l.state;
  each : (q : ℕ) → q < l.p → IsEffective (held l.trees) q (slice_index l.state q) (slice_index l.checkpoints q);
}
