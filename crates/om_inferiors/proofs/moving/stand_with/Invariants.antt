use Rattle.std.proofs.Common.{◌≡◌}
use Rattle.std.specs.Prelude.{slice_get}
use Rattle.om_inferiors.specs.Moving.{AreBack}
use Rattle.om_inferiors.proofs.moving.stand_with.Given as goal

abbrev pub invariant-loop-other : goal.invariant-loop-other
invariant-loop-other l = record {
  back : AreBack l.initial.all l.all;
  stays : slice_get l.all l.place ≡ slice_get l.initial.all l.place;
}
