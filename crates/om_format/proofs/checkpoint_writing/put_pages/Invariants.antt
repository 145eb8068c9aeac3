use Rattle.std.proofs.Common.{◌≡◌, ◌++◌, take}
use Rattle.std.specs.Prelude.{map}
use Rattle.std.specs.List.{flat_map}
use Rattle.om_pages.specs.Pages.{page_at}
use Rattle.om_format.specs.steps.CheckpointBytes.{page_bytes}
use Rattle.om_format.proofs.checkpoint_writing.put_pages.Given as goal

abbrev pub invariant-loop-index : goal.invariant-loop-index
invariant-loop-index l = l.out.items ≡ l.fn.out.items ++ flat_map page_bytes (map (page_at l.memory) (take l.index-index l.indices))
