use Rattle.std.proofs.Common.{◌≡◌, ◌⊎◌, ◌++◌, ◌-◌, ◌≤◌, string_bytes}
use Rattle.std.specs.List.{flat_map, range_with_len}
use Rattle.om_debug.specs.Monitor.{event_line}
use Rattle.om_debug.proofs.monitor.push_lines.Given as goal

-- the lines of the events so far
abbrev pub invariant-loop-event : goal.invariant-loop-event
invariant-loop-event l = record {
  lines : string_bytes l.out ≡ string_bytes l.initial.out ++ flat_map (event_line l.events l.next) (range_with_len l.first (l.event - l.first));
  from : l.first ≤ l.event;
  within : (l.event ≡ l.first) ⊎ (l.event ≤ l.end);
}
