use Rattle.std.proofs.Common.{◌≡◌, take}
use Rattle.om_format.proofs.queue.Queue.copy.Given as goal

abbrev pub invariant-loop-entry : goal.invariant-loop-entry
invariant-loop-entry l = l.entries.items ≡ take l.entry-index l.self.entries.items
