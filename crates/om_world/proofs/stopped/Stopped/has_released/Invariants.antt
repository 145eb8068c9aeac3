use Rattle.std.proofs.Common.{ℕ, ◌<◌, ◌≤◌, length}
use Rattle.om_manager.specs.State.{released_by}
use Rattle.om_world.proofs.stopped.Stopped.has_released.Given as goal

abbrev pub invariant-loop-p : goal.invariant-loop-p
invariant-loop-p g l = (q : ℕ) → q < l.p → length (released_by l.self.manager q) ≤ length (released_by l.manager q)
