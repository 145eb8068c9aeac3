use Rattle.std.proofs.Common.{length}
use Rattle.om_threads.specs.steps.Settling.{IsRowSettled}
use Rattle.om_threads.proofs.settle.settle_row.Given as goal

abbrev pub invariant-loop-to : goal.invariant-loop-to
invariant-loop-to g l = IsRowSettled (length l.yielded) l.from l.fn.puts.items l.fn.takes.items l.takes.items
