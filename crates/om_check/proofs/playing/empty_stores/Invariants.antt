use Rattle.std.proofs.Common.{◌≡◌, length}
use Rattle.std.specs.Prelude.{All}
use Rattle.om_world.specs.World.{IsEmpty}
use Rattle.om_check.proofs.playing.empty_stores.Given as goal

abbrev pub invariant-loop : goal.invariant-loop
invariant-loop l = record {
  number : length l.stores.items ≡ l.counter;
  empty : All IsEmpty l.stores.items;
}
