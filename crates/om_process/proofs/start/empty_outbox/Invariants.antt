use Rattle.std.proofs.Common.{◌≡◌, replicate}
use Rattle.om_process.specs.Process.{empty_queue}
use Rattle.om_process.proofs.start.empty_outbox.Given as goal

abbrev pub invariant-loop-made : goal.invariant-loop-made
invariant-loop-made l = l.outbox.items ≡ replicate l.made empty_queue
