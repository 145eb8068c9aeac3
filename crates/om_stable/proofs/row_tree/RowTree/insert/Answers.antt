use Rattle.std.proofs.Common.{ap, ◌∙◌}
use Rattle.std.specs.FinMap as map
use Rattle.om_stable.proofs.TreeLemmas.{records_of-put}
use Rattle.om_stable.proofs.row_tree.RowTree.insert.Goals as goal

pub returns-clause-ok : goal.returns-clause-ok
returns-clause-ok c =
    records_of-put c.self.inside.tree.entries c.insert.new.self.entries c.args.x c.in_ok-from_slice.field-0 c.in_ok-insert.ensures.updates.0
    ∙ ap (λ m. map.insert m c.args.x c.in_ok-from_slice.field-0.items) c.self.view_is
    ∙ ap (λ bytes. map.insert c.args.self.now c.args.x bytes) c.in_ok-from_slice.ensures.items
