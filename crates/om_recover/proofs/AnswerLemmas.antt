use Rattle.std.proofs.Common.{◌≡◌, ℕ, ◌+◌, ◌≤◌, ◌∙◌, sym, refl, arith, Option, None, Some, MatchOption}
use Rattle.om_recover.specs.Rows.{Rows, HasRow, Has}
use Rattle.om_recover.specs.Offered.{IsInOrderAbove, Agrees, Breaks}
use Rattle.om_recover.specs.steps.Beside.{IsNearestBelow, IsNearestAbove, BreaksBelow, BreaksAbove}
use Rattle.om_recover.specs.steps.Search.{HasNoRowBelow, HasNoRowAbove, HasNoRowFrom}
use Rattle.om_recover.specs.steps.Held.{IsRecordTo, IsRecordFrom}
use Rattle.om_recover.specs.declared.row.RowKind.{RowKind}
use Rattle.om_recover.specs.declared.row.RowKind.TheVariants.{Checkpoint, Log}
use Rattle.om_recover.specs.declared.row.Row.{Row}

-- what holds of checkpoints and of logs holds of each row
of_either : (P : RowKind → Type 0) → P Checkpoint → P Log → (kind : RowKind) → P kind
of_either P checkpoint log Checkpoint = checkpoint
of_either P checkpoint log Log = log

-- the row is a record of its interval
itself : (rows : Rows) (row other : Row) → HasRow rows other → other.pid ≡ row.pid → Has rows other.kind row.pid other.interval
itself rows row other there same = record { row = other; there = there; kind_is = refl; pid_is = same; interval_is = refl }

-- the nearer of the nearest checkpoint and the nearest log is the nearest row
pub below_by_log : (rows : Rows) (row log : Row) (to : ℕ) → to + 1 ≡ row.interval → IsRecordTo rows Log row.pid to log → ((x : ℕ) → Has rows Checkpoint row.pid x → x ≤ to → x ≤ log.interval) → IsNearestBelow rows row log
below_by_log rows row log to next near farther = record {
  there = near.there;
  pid = near.pid_is;
  below = omega (arith, near.within, next);
  nearest = λ other there same below. of_either (λ kind. Has rows kind row.pid other.interval → other.interval ≤ log.interval)
      (λ has. farther other.interval has (omega (arith, below, next))) (λ has. near.nearest other.interval has (omega (arith, below, next))) other.kind (itself rows row other there same);
}

pub below_by_checkpoint : (rows : Rows) (row checkpoint : Row) (to : ℕ) → to + 1 ≡ row.interval → IsRecordTo rows Checkpoint row.pid to checkpoint → ((x : ℕ) → Has rows Log row.pid x → x ≤ to → x ≤ checkpoint.interval) → IsNearestBelow rows row checkpoint
below_by_checkpoint rows row checkpoint to next near farther = record {
  there = near.there;
  pid = near.pid_is;
  below = omega (arith, near.within, next);
  nearest = λ other there same below. of_either (λ kind. Has rows kind row.pid other.interval → other.interval ≤ checkpoint.interval)
      (λ has. near.nearest other.interval has (omega (arith, below, next))) (λ has. farther other.interval has (omega (arith, below, next))) other.kind (itself rows row other there same);
}

-- and where there is no log, the nearest checkpoint, if there is one
pub below_without_log : (rows : Rows) (row : Row) (to : ℕ) (told : Option Row) → to + 1 ≡ row.interval → ((x : ℕ) → Has rows Log row.pid x → x ≤ to → ⊥)
    → MatchOption told ((x : ℕ) → Has rows Checkpoint row.pid x → x ≤ to → ⊥) (IsRecordTo rows Checkpoint row.pid to) → MatchOption told (HasNoRowBelow rows row) (IsNearestBelow rows row)
below_without_log rows row to None next no_log none = λ low there same below. of_either (λ kind. Has rows kind row.pid low.interval → ⊥)
    (λ has. none low.interval has (omega (arith, below, next))) (λ has. no_log low.interval has (omega (arith, below, next))) low.kind (itself rows row low there same)
below_without_log rows row to (Some checkpoint) next no_log near = below_by_checkpoint rows row checkpoint to next near (λ x has below. absurd (no_log x has below))

-- the same above
pub above_by_log : (rows : Rows) (row log : Row) (from : ℕ) → row.interval + 1 ≡ from → IsRecordFrom rows Log row.pid from log → ((x : ℕ) → Has rows Checkpoint row.pid x → from ≤ x → log.interval ≤ x) → IsNearestAbove rows row log
above_by_log rows row log from next near farther = record {
  there = near.there;
  pid = near.pid_is;
  above = omega (arith, near.within, next);
  nearest = λ other there same above. of_either (λ kind. Has rows kind row.pid other.interval → log.interval ≤ other.interval)
      (λ has. farther other.interval has (omega (arith, above, next))) (λ has. near.nearest other.interval has (omega (arith, above, next))) other.kind (itself rows row other there same);
}

pub above_by_checkpoint : (rows : Rows) (row checkpoint : Row) (from : ℕ) → row.interval + 1 ≡ from → IsRecordFrom rows Checkpoint row.pid from checkpoint → ((x : ℕ) → Has rows Log row.pid x → from ≤ x → checkpoint.interval ≤ x) → IsNearestAbove rows row checkpoint
above_by_checkpoint rows row checkpoint from next near farther = record {
  there = near.there;
  pid = near.pid_is;
  above = omega (arith, near.within, next);
  nearest = λ other there same above. of_either (λ kind. Has rows kind row.pid other.interval → checkpoint.interval ≤ other.interval)
      (λ has. near.nearest other.interval has (omega (arith, above, next))) (λ has. farther other.interval has (omega (arith, above, next))) other.kind (itself rows row other there same);
}

pub above_without_log : (rows : Rows) (row : Row) (from : ℕ) (told : Option Row) → row.interval + 1 ≡ from → ((x : ℕ) → Has rows Log row.pid x → from ≤ x → ⊥)
    → MatchOption told ((x : ℕ) → Has rows Checkpoint row.pid x → from ≤ x → ⊥) (IsRecordFrom rows Checkpoint row.pid from) → MatchOption told (HasNoRowAbove rows row) (IsNearestAbove rows row)
above_without_log rows row from None next no_log none = λ high there same above. of_either (λ kind. Has rows kind row.pid high.interval → ⊥)
    (λ has. none high.interval has (omega (arith, above, next))) (λ has. no_log high.interval has (omega (arith, above, next))) high.kind (itself rows row high there same)
above_without_log rows row from (Some checkpoint) next no_log near = above_by_checkpoint rows row checkpoint from next near (λ x has above. absurd (no_log x has above))

-- the process has no row at the row's interval or above, where it has neither a log nor a checkpoint there
pub none_at_or_above : (rows : Rows) (row : Row) → ((x : ℕ) → Has rows Log row.pid x → row.interval ≤ x → ⊥) → ((x : ℕ) → Has rows Checkpoint row.pid x → row.interval ≤ x → ⊥) → HasNoRowFrom rows row
none_at_or_above rows row no_log no_checkpoint high there same above = of_either (λ kind. Has rows kind row.pid high.interval → ⊥)
    (λ has. no_checkpoint high.interval has above) (λ has. no_log high.interval has above) high.kind (itself rows row high there same)

-- so the row agrees with each record of its interval, is not there, and is in order with those above
pub agrees_beyond : (rows : Rows) (row : Row) → HasNoRowFrom rows row → Agrees rows row
agrees_beyond rows row none other there same at = absurd (none other there same (omega (arith, at)))

pub absent_beyond : (rows : Rows) (row : Row) → HasNoRowFrom rows row → HasRow rows row → ⊥
absent_beyond rows row none there = none row there refl (omega arith)

pub in_order_beyond : (rows : Rows) (row : Row) → HasNoRowFrom rows row → IsInOrderAbove rows row
in_order_beyond rows row none high there same above = absurd (none high there same (omega (arith, above)))

-- a nearest row that breaks the order has none between it and the row
pub breaks_below : (rows : Rows) (row : Row) (y : ℕ) (found : BreaksBelow rows row y) → Breaks rows found.low row
breaks_below rows row y found = record {
  pid = found.nearest.pid;
  below = found.nearest.below;
  none_between = λ other there same above under. let near = found.nearest.nearest other there (same ∙ found.nearest.pid) under in omega (arith, near, above);
  breaks = found.breaks;
}

pub breaks_above : (rows : Rows) (row : Row) (y : ℕ) (found : BreaksAbove rows row y) → Breaks rows row found.high
breaks_above rows row y found = record {
  pid = sym found.nearest.pid;
  below = found.nearest.above;
  none_between = λ other there same above under. let near = found.nearest.nearest other there same above in omega (arith, near, under);
  breaks = found.breaks;
}
