use Rattle.std.proofs.Common.{◌≡◌, ◌+◌, ◌++◌, length}
use Rattle.om_process.specs.Kept.{made_as, numbered}
use Rattle.om_process.proofs.queues.Outputs.of.Given as goal

abbrev pub invariant-loop-entry : goal.invariant-loop-entry
invariant-loop-entry l = record {
  kept : l.kept.items ≡ numbered made_as l.first l.yielded;
  seq : l.seq ≡ l.first + length l.yielded;
  rest : l.fn.queue.entries.items ≡ l.yielded ++ l.entry-iterator.rest.items;
}
