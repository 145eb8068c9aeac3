use Rattle.std.proofs.Common.{◌≡◌, ℕ, slice_index, nat_le, min, vec_len}
use Rattle.om_recover.specs.declared.rows.trees.Base.{Base}
use Rattle.om_recover.proofs.BaseStepLemmas.{AreNewestPartBelow}
use Rattle.om_recover.proofs.rows.cutting.cut_newest.Given as goal

abbrev pub invariant-loop-p : goal.invariant-loop-p
invariant-loop-p l = record {
  part : AreNewestPartBelow (λ (place : ℕ × ℕ). nat_le place.1 (slice_index l.state place.0)) (λ (place : ℕ × ℕ) (base : Base). record base { last = min base.last (slice_index l.state place.0) }) l.p l.fn.newest.items l.newest.items;
  count : vec_len l.newest ≡ l.p-end;
}
