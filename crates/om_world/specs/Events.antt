-- The process of an event.
use Rattle.std.specs.Prelude.{ℕ, Option, Some, None}
use Rattle.om_world.specs.declared.event.Event.{Event}
use Rattle.om_world.specs.declared.event.Event.TheVariants as events

-- the process of an event
abbrev pub process_of : Event → Option ℕ
process_of (events.Run process fuel) = Some process
process_of (events.Give process frame) = Some process
process_of (events.Flush process) = Some process
process_of (events.FlushFirst process count) = Some process
process_of (events.Checkpoint process) = Some process
process_of (events.Spell process) = Some process
process_of (events.Resend process) = Some process
process_of (events.Trim process) = Some process
process_of (events.Fail process) = Some process
process_of (events.Join process) = Some process
process_of (events.Resume process) = Some process
process_of events.Prune = None
process_of events.Restart = None
