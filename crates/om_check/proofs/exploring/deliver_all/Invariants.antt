use Rattle.om_check.specs.steps.Playing.{StaysARun}
use Rattle.om_check.proofs.exploring.deliver_all.Given as goal

abbrev pub invariant-loop : goal.invariant-loop
invariant-loop g l = StaysARun l.fn.trail.events.items l.fn.trail.stage.world l.trail.events.items l.trail.stage.world
