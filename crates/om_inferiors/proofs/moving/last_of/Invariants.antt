use Rattle.std.proofs.Common.{◌≡◌, ◌⊎◌, ◌<◌, length}
use Rattle.om_inferiors.specs.Moving.{AreBack}
use Rattle.om_inferiors.specs.steps.Lasting.{AreUntouched, IsLastUpTo}
use Rattle.om_inferiors.proofs.moving.last_of.Given as goal

abbrev pub invariant-loop-place : goal.invariant-loop-place
invariant-loop-place g l = record {
  back : AreBack l.initial.all l.all;
  last : IsLastUpTo l.initial.all l.all l.first.place l.first.stop l.place l.last.place l.last.stop;
  so : AreUntouched l.initial.all l.all l.place;
  before : (l.last.place ≡ l.first.place) ⊎ (l.last.place < l.place);
  within : l.last.place < length l.all;
  unread : g.R.Read.remaining l.reader ≡ g.R.Read.remaining l.fn.reader;
}
