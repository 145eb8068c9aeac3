use Rattle.std.proofs.Common.{◌≡◌, ℕ, ◌≤◌}
use Rattle.std.specs.FinMap as map
use Rattle.om_stable.proofs.record_tree.RecordTree.keep_from.Given as goal

-- what stands from the least on is as it was
abbrev pub invariant-loop-x : goal.invariant-loop-x
invariant-loop-x l = (q : ℕ) → l.least ≤ q → map.get l.self q ≡ map.get l.fn.self q

abbrev pub decreases-loop-x : goal.decreases-loop-x
decreases-loop-x l = map.len l.self
