use Rattle.std.proofs.Common.{ℕ, ◌<◌}
use Rattle.om_check.specs.Whole.{IsDone}
use Rattle.om_check.proofs.playing.all_done.Given as goal

abbrev pub invariant-loop-p : goal.invariant-loop-p
invariant-loop-p l = (p : ℕ) → p < l.p → IsDone l.fn.world p
