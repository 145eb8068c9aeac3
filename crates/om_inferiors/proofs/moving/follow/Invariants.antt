use Rattle.std.proofs.Common.{◌≡◌}
use Rattle.std.specs.Prelude.{slice_get}
use Rattle.om_inferiors.specs.Moving.{AreOn}
use Rattle.om_inferiors.proofs.moving.follow.Given as goal

abbrev pub invariant-loop-place : goal.invariant-loop-place
invariant-loop-place l = record {
  on : AreOn l.initial.all l.all;
  first : slice_get l.all l.first ≡ slice_get l.initial.all l.first;
}
