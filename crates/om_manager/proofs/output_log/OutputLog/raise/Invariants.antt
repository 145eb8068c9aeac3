use Rattle.std.proofs.Common.{◌≡◌, ◌≤◌, ◌-◌, length, map}
use Rattle.std.specs.List.{AllWithin}
use Rattle.om_manager.specs.Outputs.{held_of}
use Rattle.om_manager.proofs.output_log.OutputLog.raise.Given as goal

abbrev pub invariant-loop-self : goal.invariant-loop-self
invariant-loop-self l = record {
  items : l.self-inside.items ≡ l.initial.self-inside.items;
  limit : l.self-inside.limit ≡ l.initial.self-inside.limit;
  among : l.self-inside.released ≤ length l.self-inside.items.items;
  out : AllWithin (λ output. output.interval ≤ l.limit) (map held_of l.self-inside.items.items) 0 l.self-inside.released;
}

abbrev pub decreases-loop-self : goal.decreases-loop-self
decreases-loop-self l = length l.self-inside.items.items - l.self-inside.released
