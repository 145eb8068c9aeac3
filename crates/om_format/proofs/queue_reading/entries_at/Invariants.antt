use Rattle.std.proofs.Common.{◌≡◌, ◌+◌, ◌-◌, length}
use Rattle.om_format.specs.steps.CheckpointReading.{entries_at}
use Rattle.om_format.proofs.Loops.{with_front}
use Rattle.om_format.proofs.queue_reading.entries_at.Given as goal

abbrev pub invariant-loop : goal.invariant-loop
invariant-loop l =
    (l.offset + length l.rest ≡ l.fn.offset + length l.bytes)
    × (with_front l.value.items (entries_at l.newest l.low (l.count - l.counter) l.offset l.rest) ≡ entries_at l.newest 0 l.count l.fn.offset l.bytes)
