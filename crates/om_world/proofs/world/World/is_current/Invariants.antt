use Rattle.std.proofs.Common.{ℕ, ◌<◌}
use Rattle.om_world.specs.Failures.{HasNews}
use Rattle.om_world.proofs.world.World.is_current.Given as goal

abbrev pub invariant-loop-p : goal.invariant-loop-p
invariant-loop-p g l = (q : ℕ) → q < l.p → HasNews l.self q → ⊥
