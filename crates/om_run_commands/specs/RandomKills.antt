-- Kills that are drawn. A kill is a process and an interval.
use Rattle.std.specs.Prelude.{ℕ, ◌<◌, ◌≤◌}
use Rattle.om_run_commands.specs.declared.random_kills.TheConstants.{LAST_DRAWN}

-- a kill of one of so many processes, at an interval that a message may begin
pub record IsDrawn (n : ℕ) (kill : ℕ × ℕ) : Type 0 where
  pub process : kill.0 < n
  pub least : 1 ≤ kill.1
  pub most : kill.1 ≤ LAST_DRAWN
