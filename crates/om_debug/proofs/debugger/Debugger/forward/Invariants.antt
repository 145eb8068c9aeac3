use Rattle.std.proofs.Common.{◌≡◌}
use Rattle.om_debug.specs.Stops.{IsMoved, IsPassed, with_timeline}
use Rattle.om_debug.proofs.debugger.Debugger.forward.Given as goal

abbrev pub invariant-pieces : goal.invariant-pieces
invariant-pieces g l = record {
  moved : IsMoved l.fn.self.timeline l.self.timeline;
  same : l.self ≡ with_timeline l.fn.self l.self.timeline;
  passed : IsPassed l.fn.self l.self;
  unread : g.R.Read.remaining l.reader ≡ g.R.Read.remaining l.fn.reader;
}
