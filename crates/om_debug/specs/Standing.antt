-- How a process stands, in words.
use Rattle.std.specs.Prelude.{ℕ, List, codes, if◌then◌else◌}
use Rattle.om_world.specs.Texts.{status_text}
use Rattle.om_debug.specs.Moments.{is_down}
use Rattle.om_debug.specs.Stops.{DebugState, status_here}

abbrev pub standing_text : DebugState → List ℕ
standing_text d = if is_down d.timeline.deeds d.timeline.event then codes "down" else status_text (status_here d.timeline)
