use Rattle.std.proofs.Common.{◌≡◌}
use Rattle.om_inferiors.specs.Moving.{AreOn}
use Rattle.om_inferiors.proofs.moving.forward.Given as goal

abbrev pub invariant-pieces : goal.invariant-pieces
invariant-pieces g l = record {
  on : AreOn l.fn.all l.all;
  unread : g.R.Read.remaining l.reader ≡ g.R.Read.remaining l.fn.reader;
}
