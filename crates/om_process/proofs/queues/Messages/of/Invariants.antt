use Rattle.std.proofs.Common.{◌≡◌, ◌+◌, ◌++◌, length}
use Rattle.om_process.specs.Kept.{numbered, sent_as}
use Rattle.om_process.proofs.queues.Messages.of.Given as goal

abbrev pub invariant-loop-entry : goal.invariant-loop-entry
invariant-loop-entry l = record {
  kept : l.kept.items ≡ numbered sent_as l.first l.yielded;
  ssn : l.ssn ≡ l.first + length l.yielded;
  rest : l.fn.queue.entries.items ≡ l.yielded ++ l.entry-iterator.rest.items;
}
