-- Processes at their start.
use Rattle.std.specs.Prelude.{ℕ, ◌<◌, ◌≤◌, [], ◌∷◌, replicate}
use Rattle.om_interval.specs.declared.pid.TheConstants.{MAX_PROCESSES}
use Rattle.om_process.specs.Process.{Program, started}
use Rattle.om_process.specs.Core.{CoreState, settled}

-- a cluster of n has a process of this number
pub record IsPlace (own n : ℕ) : Type 0 where
  pub within : n ≤ MAX_PROCESSES
  pub place : own < n

-- a process at its start, which knows of no failure
abbrev pub started_core : Program → ℕ → ℕ → CoreState
started_core program own n = settled own (started program n) 0 0 (replicate n (0 ∷ []))
