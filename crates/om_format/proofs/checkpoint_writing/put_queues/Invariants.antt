use Rattle.std.proofs.Common.{◌≡◌, ◌++◌, take}
use Rattle.std.specs.Prelude.{map}
use Rattle.std.specs.List.{flat_map}
use Rattle.om_format.specs.Queues.{queue_record}
use Rattle.om_format.specs.steps.CheckpointBytes.{message_bytes}
use Rattle.om_format.proofs.checkpoint_writing.put_queues.Given as goal

abbrev pub invariant-loop-queue : goal.invariant-loop-queue
invariant-loop-queue l = l.out.items ≡ l.fn.out.items ++ flat_map message_bytes (map queue_record (take l.queue-index l.queues))
