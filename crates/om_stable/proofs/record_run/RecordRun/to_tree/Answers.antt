use Rattle.std.proofs.Common.{ap, ◌∙◌}
use Rattle.std.specs.Ordering.{nat_cmp}
use Rattle.std.specs.FinMap as map
use Rattle.om_stable.proofs.record_run.RecordRun.to_tree.Goals as goal

pub insert_all-requires-clause-free : goal.insert_all-requires-clause-free
insert_all-requires-clause-free c = λ x ge lt. ap (λ m. map.get m x) c.new-tree.ensures ∙ map.get-empty nat_cmp x
