-- What the command debug shows of a store.
use Rattle.std.specs.Prelude.{◌≡◌, ℕ, List, [], ◌++◌, Option, None, Some, codes, decimal}
use Rattle.om_commands.specs.Replay.{IsReplayError}
use Rattle.om_commands.specs.declared.error.CommandError.{CommandError}
use Rattle.om_commands.specs.declared.error.CommandError.TheVariants as errors
use Rattle.om_debug.specs.Stops.{DebugState}
use Rattle.om_stable.specs.Content.{Content}
use Rattle.om_stored_timeline.specs.Stored.{IsStored}
use Rattle.om_stored_timeline.specs.declared.standing.StoredTimeline.{StoredTimeline}

-- the process of a store is shown under its number, where it stands, with nowhere to stop
pub record IsShown (held : Content) (interval : Option ℕ) (d : DebugState) : Type 0 where
  pub stored : StoredTimeline
  pub stands : IsStored held interval stored
  pub timeline : d.timeline ≡ stored.timeline
  pub breaks : d.breaks ≡ []
  pub watches : d.watches ≡ []
  pub name : d.name ≡ codes "process " ++ decimal stored.process

-- the errors of a replay to the interval that is asked for, or else to some interval
abbrev pub IsErrorOfStore : Content → Option ℕ → CommandError → Type 0
IsErrorOfStore held (Some x) error = IsReplayError held x error
IsErrorOfStore held None error = (x : ℕ) × IsReplayError held x error

-- the errors of showing a store: those of the replay, or those of packets
abbrev pub IsErrorOfShownStore : Content → Option ℕ → CommandError → Type 0
IsErrorOfShownStore held interval errors.CannotRead = Unit {0}
IsErrorOfShownStore held interval errors.CannotWrite = Unit {0}
IsErrorOfShownStore held interval error = IsErrorOfStore held interval error
