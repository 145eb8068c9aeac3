use Rattle.std.proofs.Common.{◌≡◌, map, take}
use Rattle.om_process.specs.steps.Numbers.{made_entry}
use Rattle.om_process.proofs.queues.Outputs.queue.Given as goal

abbrev pub invariant-loop-made : goal.invariant-loop-made
invariant-loop-made l = l.entries.items ≡ map made_entry (take l.made-index l.self-inside.kept)
