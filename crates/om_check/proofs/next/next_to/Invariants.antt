use Rattle.om_check.specs.steps.Walks.{IsPassedFrom}
use Rattle.om_check.proofs.next.next_to.Given as goal

abbrev pub invariant-loop-q : goal.invariant-loop-q
invariant-loop-q l = IsPassedFrom l.world l.walk l.core l.q
