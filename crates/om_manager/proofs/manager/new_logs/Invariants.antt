use Rattle.std.proofs.Common.{◌≡◌, [], replicate, vec_len, vec_capacity}
use Rattle.om_manager.proofs.manager.new_logs.Given as goal

abbrev pub invariant-loop : goal.invariant-loop
invariant-loop l = record {
  len : vec_len l.logs ≡ l.counter;
  room : vec_capacity l.logs ≡ l.n;
  items : l.logs.items ≡ replicate l.counter (record { held = []; limit = 0 });
}
