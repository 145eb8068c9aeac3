use Rattle.std.proofs.Common.{◌≡◌}
use Rattle.om_debug.specs.Stops.{standing}
use Rattle.om_debug.specs.steps.Scanning.{IsPart}
use Rattle.om_debug.proofs.debugger.Debugger.last_stop.Given as goal

-- what is known up to here
abbrev pub invariant-pieces : goal.invariant-pieces
invariant-pieces g l = record {
  stands : l.self ≡ standing l.fn.self l.self.timeline.event l.self.timeline.turns;
  part : IsPart l.fn.self l.end.event l.end.turns l.self.timeline.event l.self.timeline.turns l.last;
  unread : g.R.Read.remaining l.reader ≡ g.R.Read.remaining l.fn.reader;
}
