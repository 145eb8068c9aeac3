use Rattle.std.proofs.Common.{◌≡◌, ◌++◌, take}
use Rattle.om_check.specs.Whole.{IsUnderWay}
use Rattle.om_check.specs.steps.Playing.{StaysARun}
use Rattle.om_check.specs.steps.Walks.{HasTaken}
use Rattle.om_check.proofs.all.repeat.Given as goal

abbrev pub invariant-loop-choice : goal.invariant-loop-choice
invariant-loop-choice l = record {
  run : StaysARun l.fn.trail.events.items l.fn.trail.stage.world l.trail.events.items l.trail.stage.world;
  way : IsUnderWay l.fn.trail.stage.world.programs l.trail.stage.world;
  walk : l.walk ≡ l.fn.walk ++ take l.choice-index l.choices;
  taken : HasTaken l.trail.stage.world l.walk;
}
