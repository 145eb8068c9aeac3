use Rattle.std.proofs.Common.{◌≡◌, ◌-◌, ◌<◌, ◌≤◌, length, Some}
use Rattle.std.specs.Prelude.{slice_get}
use Rattle.om_timeline.specs.declared.stage.Stage.{Stage}
use Rattle.om_timeline.specs.Timeline.{IsUpTo}
use Rattle.om_timeline.proofs.stage.up_to.Given as goal

abbrev pub invariant-halves : goal.invariant-halves
invariant-halves l = record {
  order : l.low ≤ l.high;
  within : l.high ≤ length l.stages;
  last : 0 < l.low → (stage : Stage) × (slice_get l.stages (l.low - 1) ≡ Some stage) × IsUpTo stage.at.event stage.at.turns l.to.event l.to.turns;
}

abbrev pub decreases-halves : goal.decreases-halves
decreases-halves l = l.high - l.low
