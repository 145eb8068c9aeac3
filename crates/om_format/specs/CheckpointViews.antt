-- What is seen of a checkpoint.
use Rattle.std.specs.Prelude.{ℕ, List, length, map}
use Rattle.om_format.specs.declared.checkpoint.Checkpoint.{Checkpoint}
use Rattle.om_format.specs.declared.head.Head.{Head}
use Rattle.om_format.specs.declared.queue.Queue.{Queue}
use Rattle.om_format.specs.Queues.{queue_record}
use Rattle.om_format.specs.Checkpoints.{CheckpointRecord}

-- the checkpoint of these parts: its head, its memory, the messages that are kept, by receiver, and the outputs
abbrev pub record_of_parts : Head → List ℕ → List Queue → Queue → CheckpointRecord
record_of_parts head memory kept outputs = record {
  n = length head.vec;
  head = head;
  memory = memory;
  kept = map queue_record kept;
  outputs = queue_record outputs;
}

-- a checkpoint without where it lies in memory
abbrev pub checkpoint_record : Checkpoint → CheckpointRecord
checkpoint_record c = record_of_parts c.head c.memory c.kept.items c.outputs
