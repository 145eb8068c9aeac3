use Rattle.std.proofs.Common.{◌≡◌, take, length, vec_len, vec_capacity}
use Rattle.om_interval.proofs.starts.Starts.copy.Given as goal

abbrev pub invariant-loop-starts : goal.invariant-loop-starts
invariant-loop-starts l =
    (l.by_process.items ≡ take l.starts-index l.starts-items)
    × (vec_len l.by_process ≡ l.starts-index) × (vec_capacity l.by_process ≡ length l.starts-items)
