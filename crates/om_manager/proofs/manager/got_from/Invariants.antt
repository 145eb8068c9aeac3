use Rattle.std.proofs.Common.{◌≡◌, ℕ, ◌<◌, length, slice_index}
use Rattle.om_recover.specs.Cutting.{IsGotFrom}
use Rattle.om_manager.proofs.manager.got_from.Given as goal

abbrev pub invariant-loop-q : goal.invariant-loop-q
invariant-loop-q l = record {
  places : length l.by_receiver ≡ length l.records.state;
  got : (q : ℕ) → q < l.q → IsGotFrom l.records.rows q (slice_index l.records.state q) l.pid (slice_index l.by_receiver q);
}
