use Rattle.om_check.specs.steps.Playing.{StandsIn}
use Rattle.om_check.proofs.resting.end_of.Given as goal

abbrev pub invariant-loop-p : goal.invariant-loop-p
invariant-loop-p l = StandsIn l.world l.end l.p
