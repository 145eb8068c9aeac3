use Rattle.om_check.specs.Whole.{HasAllFrom}
use Rattle.om_check.proofs.resting.has_all.Given as goal

abbrev pub invariant-loop-q : goal.invariant-loop-q
invariant-loop-q l = HasAllFrom l.world l.core l.q
