use Rattle.std.proofs.Common.{◌≡◌, ◌≤◌}
use Rattle.om_worker_parts.specs.Places.{IsLanded, member_of}
use Rattle.om_worker.proofs.turns.turns_until_over.Given as goal

abbrev pub invariant-loop-left : goal.invariant-loop-left
invariant-loop-left g l = (l.worker.links.ends ≡ l.fn.worker.links.ends) × (member_of l.state ≡ member_of l.fn.state) × (l.left ≤ l.fn.turns) × IsLanded l.state

abbrev pub decreases-loop-left : goal.decreases-loop-left
decreases-loop-left g l = l.left
