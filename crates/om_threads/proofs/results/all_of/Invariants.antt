use Rattle.std.specs.Prelude.{◌≡◌, ◌++◌, ◌+◌, ◌≤◌, map, vec_len, vec_capacity, Ok}
use Rattle.std.specs.Vec.Iter.{into_iter_len, into_iter_items}
use Rattle.om_threads.proofs.results.all_of.Given as goal

abbrev pub invariant-loop-result : goal.invariant-loop-result
invariant-loop-result g l =
    (vec_len l.all + into_iter_len l.result-iterator ≡ vec_len l.fn.results)
    × (vec_len l.fn.results ≤ vec_capacity l.all)
    × (map Ok l.all.items ++ into_iter_items l.result-iterator ≡ l.fn.results.items)
