use Rattle.std.proofs.Common.{◌≡◌, ◌<◌, ◌≤◌, length}
use Rattle.std.specs.Prelude.{map}
use Rattle.std.specs.List.{All}
use Rattle.om_pages.specs.Pages.{page_at}
use Rattle.om_pages.proofs.KeptPages.{kept_before}
use Rattle.om_pages.proofs.marks.kept_among.Given as goal

-- the kept pages so far
abbrev pub invariant-loop-index : goal.invariant-loop-index
invariant-loop-index l = record {
  kept : map (page_at l.memory) l.kept.items ≡ kept_before l.memory l.index;
  within : All (λ k. k < l.index) l.kept.items;
  few : length l.kept.items ≤ l.index;
}
