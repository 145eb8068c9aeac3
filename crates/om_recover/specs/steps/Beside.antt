-- The rows of a process beside one that is offered.
use Rattle.std.specs.Prelude.{◌≡◌, ℕ, ◌<◌, ◌≤◌}
use Rattle.om_recover.specs.Rows.{Rows, HasRow, IsAtMost}
use Rattle.om_recover.specs.declared.row.Row.{Row}

-- of the process's rows below the row's interval, this one is the nearest
pub record IsNearestBelow (rows : Rows) (row low : Row) : Type 0 where
  pub there : HasRow rows low
  pub pid : low.pid ≡ row.pid
  pub below : low.interval < row.interval
  pub nearest : (other : Row) → HasRow rows other → other.pid ≡ row.pid → other.interval < row.interval → other.interval ≤ low.interval

-- of the process's rows above the row's interval, this one is the nearest
pub record IsNearestAbove (rows : Rows) (row high : Row) : Type 0 where
  pub there : HasRow rows high
  pub pid : high.pid ≡ row.pid
  pub above : row.interval < high.interval
  pub nearest : (other : Row) → HasRow rows other → other.pid ≡ row.pid → row.interval < other.interval → high.interval ≤ other.interval

-- the nearest of the process's rows below, at interval y, has not at most the row's vectors
pub record BreaksBelow (rows : Rows) (row : Row) (y : ℕ) : Type 0 where
  pub low : Row
  pub stands_at : low.interval ≡ y
  pub nearest : IsNearestBelow rows row low
  pub breaks : IsAtMost low row → ⊥

-- the nearest of the process's rows above, at interval y, has not at least the row's vectors
pub record BreaksAbove (rows : Rows) (row : Row) (y : ℕ) : Type 0 where
  pub high : Row
  pub stands_at : high.interval ≡ y
  pub nearest : IsNearestAbove rows row high
  pub breaks : IsAtMost row high → ⊥
