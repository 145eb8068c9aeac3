use Rattle.std.proofs.Common.{◌≡◌, ◌≤◌, vec_len, vec_capacity}
use Rattle.om_recover.specs.steps.Logs.{AreEmpty}
use Rattle.om_recover.proofs.rows.first.no_runs.Given as goal

abbrev pub invariant-loop : goal.invariant-loop
invariant-loop l = record {
  empty : AreEmpty l.runs.items;
  count : vec_len l.runs ≡ l.counter;
  room : l.n ≤ vec_capacity l.runs;
}
