use Rattle.std.proofs.Common.{ap, ◌∙◌}
use Rattle.om_stable.specs.Content.{rows_of}
use Rattle.om_stable.proofs.TreeLemmas.{between_backwards, between_from_range}
use Rattle.om_stable.proofs.record_tree.RecordTree.between.Goals as goal

pub returns-then-to-after : goal.returns-then-to-after
returns-then-to-after c = ap rows_of c.new-found.ensures.items ∙ between_backwards c.args.after c.args.to c.args.self.now c.if-to-after.true

pub loop-x-init : goal.loop-x-init
loop-x-init c = rw (c.new-found.ensures.items, c.into_iter-x-iterator.ensures.into_iter_gives)
    (between_from_range c.self.inside.tree c.args.self.now c.self.view_is c.args.after c.args.to c.range-x-items.result c.range-x-items.ensures.ordered (c.range-x-items.ensures.between tt))
