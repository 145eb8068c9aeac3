use Rattle.std.proofs.Common.{◌≡◌, ◌≤◌, ℕ, vec_len, vec_capacity}
use Rattle.om_recover.specs.steps.Bases.{HasNoNewest}
use Rattle.om_recover.proofs.rows.first.no_newest.Given as goal

abbrev pub invariant-loop : goal.invariant-loop
invariant-loop l = record {
  none : (p : ℕ) → HasNoNewest l.newest.items p;
  count : vec_len l.newest ≡ l.counter;
  room : l.n ≤ vec_capacity l.newest;
}
