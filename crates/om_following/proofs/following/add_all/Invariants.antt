use Rattle.std.proofs.Common.{◌≡◌, ◌≤◌, ℕ}
use Rattle.std.specs.Prelude.{slice_get, vec_len}
use Rattle.om_manager.specs.State.{released_by}
use Rattle.om_following.specs.steps.Lanes.{AreMore}
use Rattle.om_following.proofs.following.add_all.Given as goal

abbrev pub invariant-loop-p : goal.invariant-loop-p
invariant-loop-p l = record {
  many : vec_len l.lanes ≡ vec_len l.fn.lanes;
  more : AreMore (released_by l.manager) l.fn.lanes.items l.lanes.items;
  later : (q : ℕ) → l.p ≤ q → slice_get l.lanes.items q ≡ slice_get l.fn.lanes.items q;
}
