use Rattle.std.proofs.Common.{ap, ◌∙◌}
use Rattle.std.specs.FinMap as map
use Rattle.om_stable.proofs.TreeLemmas.{records_of-gone}
use Rattle.om_stable.proofs.row_tree.RowTree.remove.Goals as goal

pub returns : goal.returns
returns c =
    records_of-gone c.self.inside.tree.entries c.remove.new.self.entries c.args.x c.remove.ensures.updates.0
    ∙ ap (λ m. map.remove m c.args.x) c.self.view_is
