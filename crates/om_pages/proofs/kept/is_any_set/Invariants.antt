use Rattle.std.proofs.Common.{◌≡◌, take}
use Rattle.om_pages.specs.Pages.{is_kept}
use Rattle.om_pages.proofs.kept.is_any_set.Given as goal

abbrev pub invariant-loop-byte : goal.invariant-loop-byte
invariant-loop-byte l = l.set ≡ is_kept (take l.byte-index l.bytes)
