use Rattle.std.proofs.Common.{length}
use Rattle.om_threads.specs.steps.Settling.{AreSettled}
use Rattle.om_threads.proofs.settle.settle_all.Given as goal

abbrev pub invariant-loop-from : goal.invariant-loop-from
invariant-loop-from g l = AreSettled (length l.yielded) l.fn.puts.items l.fn.takes.items l.takes.items
