use Rattle.std.proofs.Common.{ℕ, ◌<◌, ◌≤◌, ◌-◌, ◌^◌}
use Rattle.om_recover.specs.Rows.{Has}
use Rattle.om_recover.specs.steps.Held.{held}
use Rattle.om_recover.specs.declared.row.RowKind.TheVariants.{Log}
use Rattle.om_recover.proofs.rows.adding.last_of_run.Given as goal

abbrev pub invariant-loop-y : goal.invariant-loop-y
invariant-loop-y l = record {
  above : l.x ≤ l.last;
  logs : (y : ℕ) → l.x < y → y ≤ l.last → Has (held l.trees) Log l.pid y;
}

abbrev pub decreases-loop-y : goal.decreases-loop-y
decreases-loop-y l = 2 ^ 32 - l.last
