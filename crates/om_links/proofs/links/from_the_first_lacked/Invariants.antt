use Rattle.std.proofs.Common.{◌≡◌, ℕ, ◌<◌, ◌≤◌, min, slice_index, slice_index_or, true, false}
use Rattle.om_links.proofs.links.from_the_first_lacked.Given as goal

abbrev pub invariant-loop-to : goal.invariant-loop-to
invariant-loop-to l =
    ((k : ℕ) → k < l.to → slice_index_or l.left k true ≡ false → slice_index l.next k ≡ min (slice_index l.fn.next k) (slice_index l.received k))
    × ((k : ℕ) → slice_index_or l.left k true ≡ true → slice_index l.next k ≡ slice_index l.fn.next k)
    × ((k : ℕ) → l.to ≤ k → slice_index l.next k ≡ slice_index l.fn.next k)
