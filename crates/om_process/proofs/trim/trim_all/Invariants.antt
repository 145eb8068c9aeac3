use Rattle.std.proofs.Common.{◌≡◌, take}
use Rattle.om_process.specs.Trims.{trimmed_queues}
use Rattle.om_process.proofs.trim.trim_all.Given as goal

abbrev pub invariant-loop-q : goal.invariant-loop-q
invariant-loop-q l = l.outbox.items ≡ trimmed_queues (take l.q l.bounds) l.fn.outbox.items
