use Rattle.std.proofs.Common.{◌-◌, ◌≡◌, ◌≤◌}
use Rattle.om_timeline.specs.steps.Parts.{IsGoing}
use Rattle.om_timeline.proofs.alone.Alone.go_silently.Given as goal

abbrev pub invariant-silent : goal.invariant-silent
invariant-silent l = record {
  going : IsGoing l.fn.self.own l.fn.self.n l.done l.fn.self.machine l.self.machine;
  own : l.self.own ≡ l.fn.self.own;
  n : l.self.n ≡ l.fn.self.n;
  within : l.done ≤ l.turns;
}

abbrev pub decreases-silent : goal.decreases-silent
decreases-silent l = l.turns - l.done
