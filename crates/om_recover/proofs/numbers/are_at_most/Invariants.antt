use Rattle.std.proofs.Common.{◌≡◌, ℕ, ◌<◌, ◌≤◌, false, slice_index, true}
use Rattle.om_recover.proofs.numbers.are_at_most.Given as goal

abbrev pub invariant-loop-place : goal.invariant-loop-place
invariant-loop-place l = record {
  none : l.is_above ≡ false → (k : ℕ) → k < l.place → slice_index l.low k ≤ slice_index l.high k;
  some : l.is_above ≡ true → (k : ℕ) × (k < l.place) × (slice_index l.high k < slice_index l.low k);
}
