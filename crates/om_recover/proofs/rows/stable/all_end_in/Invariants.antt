use Rattle.std.proofs.Common.{ℕ, ◌<◌, slice_index}
use Rattle.om_recover.specs.steps.Climbing.{EndsBy}
use Rattle.om_recover.specs.steps.Held.{held}
use Rattle.om_recover.proofs.rows.stable.all_end_in.Given as goal

abbrev pub invariant-loop-p : goal.invariant-loop-p
invariant-loop-p l = (q : ℕ) → q < l.p → EndsBy (held l.trees) q (slice_index l.state q)
