use Rattle.std.proofs.Common.{◌≡◌, ℕ, slice_index, nat_le, vec_len}
use Rattle.om_recover.specs.declared.rows.trees.Base.{Base}
use Rattle.om_recover.proofs.BaseStepLemmas.{AreNewestPartBelow}
use Rattle.om_recover.proofs.rows.cutting.prune_newest.Given as goal

abbrev pub invariant-loop-p : goal.invariant-loop-p
invariant-loop-p l = record {
  part : AreNewestPartBelow (λ (place : ℕ × ℕ). nat_le (slice_index l.checkpoints place.0) place.1) (λ (place : ℕ × ℕ) (base : Base). base) l.p l.fn.newest.items l.newest.items;
  count : vec_len l.newest ≡ l.p-end;
}
