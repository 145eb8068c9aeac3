use Rattle.std.proofs.Common.{◌≡◌}
use Rattle.om_timeline.specs.Timeline.{at}
use Rattle.om_timeline.proofs.timeline.Timeline.walk.Given as goal

abbrev pub invariant-loop-event : goal.invariant-loop-event
invariant-loop-event l = l.self ≡ at l.fn.self l.event 0
