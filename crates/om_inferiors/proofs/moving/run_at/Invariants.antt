use Rattle.om_inferiors.specs.Moving.{AreOn}
use Rattle.om_inferiors.proofs.moving.run_at.Given as goal

abbrev pub invariant-loop : goal.invariant-loop
invariant-loop l = AreOn l.initial.all l.all
