use Rattle.om_inferiors.specs.Moving.{AreOn}
use Rattle.om_inferiors.proofs.moving.look_all.Given as goal

abbrev pub invariant-loop-place : goal.invariant-loop-place
invariant-loop-place l = AreOn l.initial.all l.all
