use Rattle.std.proofs.Common.{◌≡◌, ◌≤◌, vec_len, vec_capacity}
use Rattle.om_interval.proofs.StartsLemmas.{BegunTo}
use Rattle.om_interval.proofs.starts.begun.Given as goal

abbrev pub invariant-loop-p : goal.invariant-loop-p
invariant-loop-p l = record {
  begun : BegunTo l.who l.state l.by_process.items l.begun.items l.p;
  count : vec_len l.begun ≡ l.p;
  room : l.p-end ≤ vec_capacity l.begun;
}
