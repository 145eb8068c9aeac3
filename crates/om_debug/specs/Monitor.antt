-- What commands of the user are told, and where they lead.
use Rattle.std.specs.Prelude.{◌≡◌, ◌⊎◌, ℕ, ◌+◌, ◌-◌, ◌<◌, ◌≤◌, ◌==◌, Bool, List, [], ◌∷◌, ◌++◌, length, min, Option, None, Some, slice_get, codes, decimal, if◌then◌else◌}
use Rattle.std.specs.List.{flat_map, range_with_len}
use Rattle.hex.specs.Hex.{encode_lower}
use Rattle.om_requests.specs.declared.request.Command.{Command}
use Rattle.om_requests.specs.declared.request.Command.TheVariants as commands
use Rattle.om_world.specs.Texts.{event_text}
use Rattle.om_world.specs.declared.event.Event.{Event}
use Rattle.om_timeline.specs.Timeline.{TimelineState, machine_here}
use Rattle.om_debug.specs.declared.debugger.Reply.{Reply}
use Rattle.om_debug.specs.declared.monitor.TheConstants.{EVENTS_BEFORE, EVENTS_FROM, HELP}
use Rattle.om_debug.specs.Standing.{standing_text}
use Rattle.om_debug.specs.Stops.{DebugState, ChangesTimelineAlone}
use Rattle.om_debug.specs.Told.{text_of}

-- ---- texts
abbrev pub done_text : ℕ → List ℕ
done_text turns = codes ", " ++ decimal turns ++ codes " instructions done"

-- the next event, where there is one, and how many of its instructions are done
abbrev pub doing_text : ℕ → Option Event → List ℕ
doing_text turns None = []
doing_text turns (Some event) = codes ": " ++ event_text event ++ done_text turns

-- the line that tells where time stands
abbrev pub time_line : TimelineState → List ℕ
time_line t = codes "event " ++ decimal t.event ++ codes " of " ++ decimal (length t.events) ++ doing_text t.turns (slice_get t.events t.event) ++ codes "\n"

-- the line of a process: how it stands, and how many instructions it has finished
abbrev pub process_line : DebugState → List ℕ
process_line d = d.name ++ codes ": " ++ standing_text d ++ codes ", " ++ decimal (machine_here d.timeline).count ++ codes " instructions\n"

-- where time and the process stand
abbrev pub where_text : DebugState → List ℕ
where_text d = time_line d.timeline ++ process_line d

abbrev pub event_if : Option Event → List ℕ
event_if None = []
event_if (Some event) = event_text event

abbrev pub mark : Bool → List ℕ
mark is_next = if is_next then codes "=> " else codes "   "

-- the line of the event of a number; the next one is marked
abbrev pub event_line : List Event → ℕ → ℕ → List ℕ
event_line all next number =
    mark (number == next) ++ decimal number ++ codes " " ++ event_if (slice_get all number) ++ codes "\n"

-- the events around here: some before the next one, and some from it on
abbrev pub events_text : TimelineState → List ℕ
events_text t =
    let first : ℕ = t.event - EVENTS_BEFORE in
    flat_map (event_line t.events t.event) (range_with_len first (min (length t.events) (t.event + EVENTS_FROM) - first))

abbrev pub help_text : List ℕ
help_text = HELP.now

-- ---- commands
-- a timeline stands before the event of a number, or at the end of a record that has no such event
abbrev pub IsAtEvent : ℕ → TimelineState → Type 0
IsAtEvent number t = (t.turns ≡ 0) × ((t.event ≡ number) ⊎ ((length t.events ≤ t.event) × (t.event < number)))

-- a text is told as the bytes that it is, in hexadecimal
abbrev pub IsSaid : List ℕ → Reply → Type 0
IsSaid text told = text_of told ≡ encode_lower text

-- what a command is told, and where it leads: all but one lead nowhere
abbrev pub IsCommanded : Command → DebugState → Reply → DebugState → Type 0
IsCommanded commands.Where old told new = (new ≡ old) × IsSaid (where_text old) told
IsCommanded commands.Events old told new = (new ≡ old) × IsSaid (events_text old.timeline) told
IsCommanded (commands.Goto number) old told new = ChangesTimelineAlone old new × IsAtEvent number new.timeline × IsSaid (where_text new) told
IsCommanded commands.Help old told new = (new ≡ old) × IsSaid help_text told
