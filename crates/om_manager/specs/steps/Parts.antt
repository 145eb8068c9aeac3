use Rattle.std.specs.Prelude.{◌≡◌, ℕ, ◌<◌, ◌≤◌, List, [], length, map, slice_index_or, Bool, Option}
use Rattle.om_interval.specs.declared.pid.TheConstants.{MAX_PROCESSES}
use Rattle.om_recover.specs.Records.{Kept, IsSound}
use Rattle.om_manager.specs.Outputs.{AreRising}
use Rattle.om_manager.specs.Sound.{AreBegun, AreRounds, IsLast}
use Rattle.om_manager.specs.steps.OutputLog.{LogState}
use Rattle.om_manager.specs.declared.presence.Presence.{Presence}

-- how a manager keeps its parts together
pub record AreParts
    (kept : Kept) (logs : List LogState) (starts : List (List ℕ)) (round : ℕ) (gathering : Option (List Presence))
    (last_state : List ℕ) (backs : List Bool) (version : ℕ) : Type 0 where
  pub some : 0 < length kept.state
  pub few : length kept.state ≤ MAX_PROCESSES
  pub records : IsSound kept
  pub limits : map (λ log. log.limit) logs ≡ kept.state
  pub rising : (p : ℕ) → AreRising (slice_index_or (map (λ log. log.held) logs) p [])
  pub begun : AreBegun starts kept.state round
  pub rounds : AreRounds kept.state round gathering version
  pub last : IsLast kept.state round last_state backs
