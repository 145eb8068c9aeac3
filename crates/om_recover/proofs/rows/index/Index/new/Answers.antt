use Rattle.std.proofs.Common.{arith, ◌∙◌, ap}
use Rattle.std.specs.FinSet as set
use Rattle.om_recover.specs.Records.{first_row}
use Rattle.om_recover.specs.steps.Held.{held}
use Rattle.om_recover.proofs.FirstLemmas.{first_lawful, first_more, none_first}
use Rattle.om_recover.proofs.rows.index.Index.new.Goals as goal

pub loop-p-init : goal.loop-p-init
loop-p-init c = record { indexed = c.in_ok-trees.ensures.indexed; first = none_first _ _ c.in_ok-trees.ensures.are }

pub add_first-requires-clause-lawful : goal.add_first-requires-clause-lawful
add_first-requires-clause-lawful c = (c.args.n, first_lawful c.args.n c.loop-p.p _ (omega arith) c.loop-p.invariant.first)

pub loop-p-preserved : goal.loop-p-preserved
loop-p-preserved c = record {
  indexed = c.in_ok-add_first.ensures.indexed;
  first = first_more _ _ (held c.loop-p.trees) _ c.loop-p.invariant.first (c.in_ok-add_first.ensures.are ∙ ap (λ p. set.insert (held c.loop-p.trees) (first_row c.args.n p)) c.at.ensures);
}
