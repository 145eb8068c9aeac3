use Rattle.std.proofs.Common.{◌≡◌, length}
use Rattle.om_pages.specs.Pages.{is_kept}
use Rattle.om_pages.proofs.kept.is_kept.Given as goal

abbrev pub invariant-loop-word : goal.invariant-loop-word
invariant-loop-word l = is_kept l.bytes ≡ is_kept l.rest

abbrev pub decreases-loop-word : goal.decreases-loop-word
decreases-loop-word l = length l.rest
