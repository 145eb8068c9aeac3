use Rattle.std.proofs.Common.{◌≡◌, map, take}
use Rattle.om_format.specs.Queues.{queue_record}
use Rattle.om_process.proofs.storing.queues_of.Given as goal

abbrev pub invariant-loop-messages : goal.invariant-loop-messages
invariant-loop-messages l = map queue_record l.queues.items ≡ take l.messages-index l.outbox.items
