use Rattle.std.proofs.Common.{◌≡◌, ◌+◌, List, length}
use Rattle.om_process.specs.Process.{Program}
use Rattle.om_world.specs.declared.entry.Entry.{Entry}
use Rattle.om_check.specs.steps.Walks.{IsLeft}
use Rattle.om_check.proofs.walk.turn_back.Given as goal

abbrev pub invariant-loop : goal.invariant-loop
invariant-loop l = record {
  left : (programs : List Program) (run : List Entry) → IsLeft programs run l.fn.choices.items → IsLeft programs run l.choices.items;
  many : length l.choices.items + l.counter ≡ length l.fn.choices.items;
}
