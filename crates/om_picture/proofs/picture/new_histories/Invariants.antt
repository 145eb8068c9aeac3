use Rattle.std.proofs.Common.{◌≡◌, length}
use Rattle.om_picture.specs.steps.Adding.{AreNew}
use Rattle.om_picture.proofs.picture.new_histories.Given as goal

abbrev pub invariant-loop : goal.invariant-loop
invariant-loop l = record {
  new : AreNew l.histories.items;
  count : length l.histories.items ≡ l.counter;
}
