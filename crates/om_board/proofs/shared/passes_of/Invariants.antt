use Rattle.std.proofs.Common.{◌≡◌, ◌≤◌, replicate, vec_len, vec_capacity}
use Rattle.om_board.proofs.shared.passes_of.Given as goal

abbrev pub invariant-loop : goal.invariant-loop
invariant-loop g l = (l.passes.items ≡ replicate l.counter l.fn.writer) × (vec_len l.passes ≡ l.counter) × (l.n ≤ vec_capacity l.passes) × (l.writer ≡ l.fn.writer)
