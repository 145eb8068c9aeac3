use Rattle.std.proofs.Common.{◌≡◌, map, take}
use Rattle.om_process.specs.steps.Numbers.{sent_entry}
use Rattle.om_process.proofs.queues.Messages.queue.Given as goal

abbrev pub invariant-loop-sent : goal.invariant-loop-sent
invariant-loop-sent l = l.entries.items ≡ map sent_entry (take l.sent-index l.self-inside.kept)
