use Rattle.std.proofs.Common.{◌≡◌, length}
use Rattle.om_check.specs.Whole.{AreStatusesOf}
use Rattle.om_explore_command.proofs.outcome.statuses_of.Given as goal

abbrev pub invariant-loop-p : goal.invariant-loop-p
invariant-loop-p l = record {
  number : length l.statuses.items ≡ l.p;
  statuses : AreStatusesOf l.world l.statuses.items;
}
