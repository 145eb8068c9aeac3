use Rattle.std.proofs.Common.{ℕ, refl}
use Rattle.om_recover.specs.Recoverable.{IsStable}
use Rattle.om_recover.specs.Cutting.{IsEffective}
use Rattle.om_recover.specs.steps.Nearest.{IsNearestTo, IsNearestFrom, HasNoneTo}
use Rattle.om_recover.specs.steps.Logs.{log_entries}
use Rattle.om_recover.specs.steps.Bases.{base_entries}
use Rattle.om_recover.specs.steps.Held.{row_of, held, AreTrees, IsRecordTo, IsRecordFrom}
use Rattle.om_recover.specs.declared.rows.trees.Vectors.{Vectors}
use Rattle.om_recover.specs.declared.rows.trees.Base.{Base}
use Rattle.om_recover.specs.declared.rows.trees.Trees.{Trees}
use Rattle.om_recover.specs.declared.row.RowKind.TheVariants.{Checkpoint, Log}
use Rattle.om_recover.proofs.HeldLemmas.{held_log, held_base, some_log, some_base}

-- the nearest log, and the nearest checkpoint, at or below a bound
pub log_to : (trees : Trees) (p to x : ℕ) (vectors : Vectors) → AreTrees trees → IsNearestTo (log_entries trees.logs) p to x vectors → IsRecordTo (held trees) Log p to (row_of Log p x vectors)
log_to trees p to x vectors sorted near = record {
  there = held_log trees p x vectors near.there;
  pid_is = refl;
  within = near.within;
  nearest = λ y has below. near.nearest y (some_log trees p y sorted has) below;
}

pub base_to : (trees : Trees) (p to x : ℕ) (base : Base) → AreTrees trees → IsNearestTo (base_entries trees.bases) p to x base → IsRecordTo (held trees) Checkpoint p to (row_of Checkpoint p x base.vectors)
base_to trees p to x base sorted near = record {
  there = held_base trees p x base near.there;
  pid_is = refl;
  within = near.within;
  nearest = λ y has below. near.nearest y (some_base trees p y sorted has) below;
}

-- and at or above one
pub log_from : (trees : Trees) (p from x : ℕ) (vectors : Vectors) → AreTrees trees → IsNearestFrom (log_entries trees.logs) p from x vectors → IsRecordFrom (held trees) Log p from (row_of Log p x vectors)
log_from trees p from x vectors sorted near = record {
  there = held_log trees p x vectors near.there;
  pid_is = refl;
  within = near.within;
  nearest = λ y has above. near.nearest y (some_log trees p y sorted has) above;
}

pub base_from : (trees : Trees) (p from x : ℕ) (base : Base) → AreTrees trees → IsNearestFrom (base_entries trees.bases) p from x base → IsRecordFrom (held trees) Checkpoint p from (row_of Checkpoint p x base.vectors)
base_from trees p from x base sorted near = record {
  there = held_base trees p x base near.there;
  pid_is = refl;
  within = near.within;
  nearest = λ y has above. near.nearest y (some_base trees p y sorted has) above;
}

-- the nearest checkpoint is the one that is used
pub nearest_is_effective : (trees : Trees) (p x checkpoint : ℕ) (base : Base) → AreTrees trees → IsNearestTo (base_entries trees.bases) p x checkpoint base → IsEffective (held trees) p x checkpoint
nearest_is_effective trees p x checkpoint base sorted near = record {
  there = record { row = row_of Checkpoint p checkpoint base.vectors; there = held_base trees p checkpoint base near.there; kind_is = refl; pid_is = refl; interval_is = refl };
  below = near.within;
  greatest = λ other has below. near.nearest other (some_base trees p other sorted has) below;
}

-- a stable interval has a checkpoint at or below it
pub some_nearest : (trees : Trees) (p x : ℕ) → AreTrees trees → HasNoneTo (base_entries trees.bases) p x → IsStable (held trees) p x → ⊥
some_nearest trees p x sorted none stable = none stable.from (some_base trees p stable.from sorted stable.checkpoint) stable.below
