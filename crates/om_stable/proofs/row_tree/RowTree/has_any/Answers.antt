use Rattle.std.proofs.Common.{arith}
use Rattle.std.specs.Range.{range_inclusive_start, range_inclusive_end}
use Rattle.om_stable.proofs.TreeLemmas.{taken_if_found, free_if_none}
use Rattle.om_stable.proofs.row_tree.RowTree.has_any.Goals as goal

pub returns-clause-taken : goal.returns-clause-taken
returns-clause-taken c = rw c.is_some.ensures
    (taken_if_found c.self.inside.tree c.args.self.now c.self.view_is c.args.first c.args.count (range_inclusive_start c.new.result) (range_inclusive_end c.new.result) c.range.result c.next.new.self c.next.result
    c.new.ensures.start (omega (arith, c.new.ensures.end)) (c.range.ensures.in_range c.new.ensures.exhausted) c.next.ensures.steps)

pub returns-clause-free : goal.returns-clause-free
returns-clause-free c = rw c.is_some.ensures
    (free_if_none c.self.inside.tree c.args.self.now c.self.view_is c.args.first c.args.count (range_inclusive_start c.new.result) (range_inclusive_end c.new.result) c.range.result c.next.new.self c.next.result
    c.new.ensures.start (omega (arith, c.new.ensures.end)) (c.range.ensures.in_range c.new.ensures.exhausted) c.next.ensures.steps)
