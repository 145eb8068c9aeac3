use Rattle.std.proofs.Common.{◌≡◌}
use Rattle.std.specs.Prelude.{map}
use Rattle.std.specs.List.{range_with_len}
use Rattle.om_pages.specs.Pages.{page_at, is_kept}
use Rattle.om_pages.proofs.marks.marks_of.Given as goal

abbrev pub invariant-loop-index : goal.invariant-loop-index
invariant-loop-index l = l.marks.items ≡ map (λ index. is_kept (page_at l.memory index).bytes) (range_with_len 0 l.index)
