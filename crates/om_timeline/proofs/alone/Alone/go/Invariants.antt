use Rattle.std.proofs.Common.{◌-◌, ◌≡◌, ◌≤◌}
use Rattle.om_timeline.specs.Alone.{turns_alone}
use Rattle.om_timeline.proofs.alone.Alone.go.Given as goal

abbrev pub invariant-loop-done : goal.invariant-loop-done
invariant-loop-done l = record {
  gone : l.self.machine ≡ turns_alone l.fn.self.own l.fn.self.n l.done l.fn.self.machine;
  own : l.self.own ≡ l.fn.self.own;
  n : l.self.n ≡ l.fn.self.n;
  within : l.done ≤ l.turns;
}

abbrev pub decreases-loop-done : goal.decreases-loop-done
decreases-loop-done l = l.turns - l.done
