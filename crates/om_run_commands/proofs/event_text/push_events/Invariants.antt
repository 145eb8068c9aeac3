use Rattle.std.proofs.Common.{◌≡◌, ◌++◌, take, string_bytes}
use Rattle.om_run_commands.specs.EventText.{events_text}
use Rattle.om_run_commands.proofs.event_text.push_events.Given as goal

abbrev pub invariant-loop-event : goal.invariant-loop-event
invariant-loop-event l = string_bytes l.text ≡ string_bytes l.initial.text ++ events_text (take l.event-index l.events)
