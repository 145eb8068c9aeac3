-- What is known of the last stop while a part of a record is gone over.
use Rattle.std.specs.Prelude.{◌≡◌, ℕ, ◌≤◌, List, length, Some, None}
use Rattle.om_requests.specs.declared.request.Watch.{Watch}
use Rattle.om_timeline.specs.Deeds.{turns_at}
use Rattle.om_debug.specs.declared.moving.Part.{Part}
use Rattle.om_debug.specs.declared.moving.Part.TheVariants as parts
use Rattle.om_debug.specs.declared.stop.Stop.TheVariants as stops
use Rattle.om_debug.specs.Stops.{DebugState, IsBefore, IsBehind, IsQuiet, IsQuietBehind, standing, stop_at, watch_at}

-- a breakpoint before a position, and nothing stops from right behind it up to another one
pub record IsLastBreak (d : DebugState) (end done event turns cur got : ℕ) : Type 0 where
  pub before : IsBefore event turns end done
  pub within : event ≤ length d.timeline.deeds
  pub few : turns ≤ turns_at d.timeline.deeds event
  pub stops : stop_at d.breaks d.watches d.timeline event turns ≡ Some stops.Break
  pub unwatched : watch_at d.watches d.timeline event turns ≡ None
  pub quiet : IsQuietBehind d.breaks d.watches d.timeline event turns cur got

-- right behind what accesses what is watched, and nothing stops from there on up to another position
pub record IsLastWatch (d : DebugState) (end done event turns cur got : ℕ) (watch : Watch) : Type 0 where
  pub from : ℕ
  pub made : ℕ
  pub before : IsBefore from made end done
  pub behind : IsBehind d.timeline.deeds from made event turns
  pub within : event ≤ length d.timeline.deeds
  pub few : turns ≤ turns_at d.timeline.deeds event
  pub met : watch_at d.watches d.timeline from made ≡ Some watch
  pub quiet : IsQuiet d.breaks d.watches d.timeline event turns cur got

-- what stops between the position of the process and another one, as far as is known
abbrev pub IsPart : DebugState → ℕ → ℕ → ℕ → ℕ → Part → Type 0
IsPart d end done cur got parts.Quiet = IsQuiet d.breaks d.watches d.timeline d.timeline.event d.timeline.turns cur got
IsPart d end done cur got (parts.Breaks at) = IsLastBreak d end done at.event at.turns cur got
IsPart d end done cur got (parts.Meets at watch) = IsLastWatch d end done at.event at.turns cur got watch
IsPart d end done cur got parts.Paused = Unit {0}

-- a piece of the way was gone: what is known up to its begin of any part that it is in, and then up to its end
abbrev pub IsOver : DebugState → DebugState → Part → Part → Type 0
IsOver old new last part = (d : DebugState) (end done : ℕ) → old ≡ standing d old.timeline.event old.timeline.turns → IsBefore old.timeline.event old.timeline.turns end done
    → IsPart d end done old.timeline.event old.timeline.turns last → IsPart d end done new.timeline.event new.timeline.turns part
