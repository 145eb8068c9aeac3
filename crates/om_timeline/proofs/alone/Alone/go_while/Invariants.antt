use Rattle.std.proofs.Common.{◌-◌, ◌≡◌, ◌≤◌}
use Rattle.om_timeline.specs.Alone.{HasTurns, turns_alone}
use Rattle.om_timeline.proofs.alone.Alone.go_while.Given as goal

abbrev pub invariant-loop-done : goal.invariant-loop-done
invariant-loop-done l = record {
  gone : l.self.machine ≡ turns_alone l.fn.self.own l.fn.self.n l.done l.fn.self.machine;
  taken : HasTurns l.fn.self.own l.fn.self.n l.done l.fn.self.machine;
  own : l.self.own ≡ l.fn.self.own;
  n : l.self.n ≡ l.fn.self.n;
  within : l.done ≤ l.most;
}

abbrev pub decreases-loop-done : goal.decreases-loop-done
decreases-loop-done l = l.most - l.done
