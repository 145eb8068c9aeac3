use Rattle.std.proofs.Common.{arith, sym, subst, ℕ, List, Option}
use Rattle.om_recover.specs.steps.Bases.{HasNoNewest}
use Rattle.om_recover.specs.declared.rows.trees.Newest.{Newest}
use Rattle.om_recover.proofs.BaseStepLemmas.{none_more}
use Rattle.om_recover.proofs.rows.first.no_newest.Goals as goal

pub loop-preserved : goal.loop-preserved
loop-preserved c = record {
  none = subst (λ (newest : List (Option Newest)). (p : ℕ) → HasNoNewest newest p) (sym c.push_reserved.ensures.items) (none_more c.loop.newest.items c.loop.invariant.none);
  count = omega (arith, c.push_reserved.ensures.len, c.loop.invariant.count);
  room = omega (arith, c.push_reserved.ensures.capacity, c.loop.invariant.room);
}
