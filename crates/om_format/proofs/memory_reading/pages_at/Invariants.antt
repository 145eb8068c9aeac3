use Rattle.std.proofs.Common.{◌≡◌, ◌+◌, ◌-◌, ◌*◌, ◌≤◌, length, min}
use Rattle.om_pages.specs.declared.pages.TheConstants.{PAGE}
use Rattle.om_pages.specs.Pages.{page_count}
use Rattle.om_format.specs.steps.CheckpointReading.{pages_at}
use Rattle.om_format.proofs.Loops.{with_front}
use Rattle.om_format.proofs.memory_reading.pages_at.Given as goal

abbrev pub invariant-loop : goal.invariant-loop
invariant-loop l = record {
  left : l.offset + length l.rest ≡ l.fn.offset + length l.bytes;
  low : l.low ≤ page_count l.size;
  so_far : length l.value.items ≡ min (l.low * PAGE) l.size;
  read : with_front l.value.items (pages_at l.size l.low (l.count - l.counter) l.offset l.rest) ≡ pages_at l.size 0 l.count l.fn.offset l.bytes;
}
