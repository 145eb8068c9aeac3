use Rattle.std.proofs.Common.{◌≡◌, ◌++◌, map}
use Rattle.om_format.specs.Queues.{queue_record}
use Rattle.om_process.proofs.restoring.outbox_of.Given as goal

abbrev pub invariant-loop-queue : goal.invariant-loop-queue
invariant-loop-queue l = record {
  made : l.outbox.items ≡ map queue_record l.yielded;
  rest : l.fn.kept.items ≡ l.yielded ++ l.queue-iterator.rest.items;
}
