-- What the lines of a script of a world mean: its programs and processes, and then what is to happen.
use Rattle.std.specs.Prelude.{ℕ, true, List, [], ◌∷◌, ◌++◌, Result, Ok}
use Rattle.om_text.specs.Reading.{◌>>=◌}
use Rattle.om_text.specs.declared.error.LineError.{LineError}
use Rattle.om_scripts.specs.Programs.{Cluster, no_programs, script_line}
use Rattle.om_world.specs.declared.event.Event.{Event}
use Rattle.om_commands.specs.Events.{event_line}

-- what has been read: the programs and processes, and the events in order
pub record EventScript : Type 0 where
  pub cluster : Cluster
  pub events : List Event

-- nothing has been read
abbrev pub no_events : EventScript
no_events = record { cluster = no_programs; events = [] }

-- one more event, behind which no line of a program or a process may stand
abbrev pub with_event : EventScript → Event → EventScript
with_event script event = record script { cluster = record script.cluster { is_closed = true }; events = script.events ++ event ∷ [] }

-- a line, by its first word
abbrev pub event_script_line : EventScript → List (List ℕ) → Result EventScript LineError
event_script_line script words = script_line script.cluster (λ next. record script { cluster = next })
    (λ first words. event_line first words >>= λ event. Ok (with_event script event)) words
