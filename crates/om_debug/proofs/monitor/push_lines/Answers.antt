use Rattle.std.proofs.Common.{inr, string_bytes, arith}
use Rattle.om_debug.specs.Monitor.{event_line}
use Rattle.om_debug.proofs.Telling.{lines_grow}
use Rattle.om_debug.proofs.monitor.push_lines.Goals as goal

pub loop-event-preserved : goal.loop-event-preserved
loop-event-preserved c =
    let from = c.loop-event.invariant.from in
    let less = c.loop-event-test.true in
    record {
      lines = lines_grow (event_line c.args.events.now c.args.next) c.args.first c.loop-event.event (string_bytes c.args.out.now) (string_bytes c.loop-event.out) (string_bytes c.push_line.new.out)
          from c.loop-event.invariant.lines c.in_ok-push_line.ensures;
      from = omega (arith, from);
      within = inr (omega (arith, less));
    }
