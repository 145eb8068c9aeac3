use Rattle.std.proofs.Common.{ap}
use Rattle.std.specs.Prelude.{is_some}
use Rattle.om_stable.proofs.TreeLemmas.{held_some, none_below, none_of_empty}
use Rattle.om_stable.proofs.record_tree.RecordTree.least.Goals as goal

pub returns-in_err-x-clause-none : goal.returns-in_err-x-clause-none
returns-in_err-x-clause-none c = rw c.from_residual.ensures (none_of_empty c.self.inside.tree c.args.self.now c.self.view_is c.in_err-x.ensures.variant.1)

pub returns-clause-has : goal.returns-clause-has
returns-clause-has c = ap is_some (held_some c.self.inside.tree c.args.self.now c.self.view_is c.in_ok-x.x.now c.in_ok-x.field-0-1.now c.in_ok-x.ensures.value)

pub returns-clause-least : goal.returns-clause-least
returns-clause-least c = none_below c.self.inside.tree c.args.self.now c.self.view_is c.in_ok-x.x.now c.in_ok-x.ensures.least
