use Rattle.std.proofs.Common.{◌≡◌, ◌+◌, drop, length}
use Rattle.std.specs.Prelude.{map}
use Rattle.om_format.specs.Queues.{queue_record}
use Rattle.om_format.specs.steps.CheckpointReading.{queues_at}
use Rattle.om_format.proofs.Loops.{with_front}
use Rattle.om_format.proofs.queue_reading.queues_at.Given as goal

abbrev pub invariant-loop-stop : goal.invariant-loop-stop
invariant-loop-stop l =
    (l.offset + length l.rest ≡ l.fn.offset + length l.bytes)
    × (with_front (map queue_record l.value.items) (queues_at l.newest (drop l.stop-index l.stops) l.offset l.rest) ≡ queues_at l.newest l.stops l.fn.offset l.bytes)
