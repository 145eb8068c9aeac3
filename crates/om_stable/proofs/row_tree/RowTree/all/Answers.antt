use Rattle.om_stable.proofs.TreeLemmas.{all_of_tree}
use Rattle.om_stable.proofs.row_tree.RowTree.all.Goals as goal

pub loop-x-init : goal.loop-x-init
loop-x-init c = rw (c.new-found.ensures.items, c.into_iter-x-iterator.ensures.into_iter_gives, c.iter-x-items.ensures.rest)
    (all_of_tree c.self.inside.tree c.args.self.now c.self.view_is c.iter-x-items.ensures.ordered)
