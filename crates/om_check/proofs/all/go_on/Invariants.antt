use Rattle.om_check.specs.Whole.{IsUnderWay}
use Rattle.om_check.specs.steps.Playing.{StaysARun}
use Rattle.om_check.specs.steps.Walks.{HasTaken, StaysAhead}
use Rattle.om_check.proofs.all.go_on.Given as goal

abbrev pub invariant-loop : goal.invariant-loop
invariant-loop l = record {
  run : StaysARun l.fn.trail.events.items l.fn.trail.stage.world l.trail.events.items l.trail.stage.world;
  way : IsUnderWay l.fn.trail.stage.world.programs l.trail.stage.world;
  taken : HasTaken l.trail.stage.world l.walk;
  ahead : StaysAhead l.fn.trail.stage.world.programs l.fn.walk l.walk;
}
