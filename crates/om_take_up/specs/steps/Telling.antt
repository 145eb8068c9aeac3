-- Rows that a manager is told one after another.
use Rattle.std.specs.Prelude.{◌≡◌}
use Rattle.om_manager.specs.Sound.{IsManager}
use Rattle.om_manager.specs.State.{ManagerState, process_count}

-- a manager was told rows, and all else of it stays
pub record IsToldRows (old new : ManagerState) : Type 0 where
  pub sound : IsManager new
  pub size : process_count new ≡ process_count old
  pub others : new ≡ record old { rows = new.rows; recovery = new.recovery; version = new.version }
