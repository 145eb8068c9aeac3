use Rattle.std.proofs.Common.{◌≡◌, slice_index, nat_le, vec_len}
use Rattle.om_recover.proofs.RunPartLemmas.{ArePartBelow}
use Rattle.om_recover.proofs.rows.cutting.cut_runs.Given as goal

abbrev pub invariant-loop-p : goal.invariant-loop-p
invariant-loop-p l = record {
  part : ArePartBelow (λ place. nat_le place.1 (slice_index l.state place.0)) l.p l.fn.runs.items l.runs.items;
  count : vec_len l.runs ≡ l.p-end;
}
