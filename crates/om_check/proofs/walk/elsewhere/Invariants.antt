use Rattle.std.proofs.Common.{◌++◌, ◌∷◌, [], ℕ, List}
use Rattle.std.specs.Prelude.{All}
use Rattle.om_check.specs.declared.walk.Choice.{Choice}
use Rattle.om_check.specs.steps.Walks.{IsExcluded, taking}
use Rattle.om_check.proofs.walk.elsewhere.Given as goal

abbrev pub invariant-loop-delivery : goal.invariant-loop-delivery
invariant-loop-delivery l = (walk : List Choice) (from : ℕ) → All (IsExcluded walk) l.excluded
    → All (IsExcluded (walk ++ taking (record { from = from; to = l.to }) ∷ [])) l.kept.items
