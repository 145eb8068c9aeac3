use Rattle.std.proofs.Common.{ℕ, ◌<◌, ◌≤◌, slice_index}
use Rattle.om_recover.proofs.search.climb.first_behind.Given as goal

-- the processes before are not behind
abbrev pub invariant-loop-p : goal.invariant-loop-p
invariant-loop-p l = (q : ℕ) → q < l.p → slice_index l.reached q ≤ slice_index l.looked q
