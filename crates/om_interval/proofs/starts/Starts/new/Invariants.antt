use Rattle.std.proofs.Common.{◌≡◌, [], ◌∷◌, replicate, vec_len, vec_capacity}
use Rattle.om_interval.proofs.starts.Starts.new.Given as goal

abbrev pub invariant-loop : goal.invariant-loop
invariant-loop l =
    (l.by_process.items ≡ replicate l.counter (0 ∷ []))
    × (vec_len l.by_process ≡ l.counter) × (vec_capacity l.by_process ≡ l.n)
