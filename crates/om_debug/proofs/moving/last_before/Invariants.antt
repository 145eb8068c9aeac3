use Rattle.std.proofs.Common.{◌≤◌}
use Rattle.om_debug.proofs.Stepping.{StillFrom}
use Rattle.om_debug.proofs.moving.last_before.Given as goal

abbrev pub invariant-events : goal.invariant-events
invariant-events l = record {
  within : l.event ≤ l.fn.at.event;
  none : l.fn.at.turns ≤ 0;
  still : StillFrom l.deeds l.event l.fn.at.event;
}

abbrev pub decreases-events : goal.decreases-events
decreases-events l = l.event
