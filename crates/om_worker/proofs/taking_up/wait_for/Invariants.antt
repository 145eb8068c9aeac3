use Rattle.std.proofs.Common.{◌≡◌, ◌≤◌}
use Rattle.om_worker.proofs.taking_up.wait_for.Given as goal

abbrev pub invariant-loop-left : goal.invariant-loop-left
invariant-loop-left g l = (l.worker.links.ends ≡ l.fn.worker.links.ends) × (l.left ≤ l.fn.turns)

abbrev pub decreases-loop-left : goal.decreases-loop-left
decreases-loop-left g l = l.left
