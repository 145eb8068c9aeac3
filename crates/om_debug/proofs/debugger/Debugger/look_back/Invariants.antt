use Rattle.std.proofs.Common.{◌≡◌}
use Rattle.om_debug.specs.Stops.{IsFrom, IsQuiet, standing}
use Rattle.om_debug.proofs.debugger.Debugger.look_back.Given as goal

-- nothing stops from here on
abbrev pub invariant-parts : goal.invariant-parts
invariant-parts g l = record {
  stands : l.self ≡ standing l.fn.self l.self.timeline.event l.self.timeline.turns;
  order : IsFrom l.self.timeline.event l.self.timeline.turns l.fn.self.timeline.event l.fn.self.timeline.turns;
  quiet : IsQuiet l.self.breaks l.self.watches l.self.timeline l.self.timeline.event l.self.timeline.turns l.fn.self.timeline.event l.fn.self.timeline.turns;
  unread : g.R.Read.remaining l.reader ≡ g.R.Read.remaining l.fn.reader;
}
