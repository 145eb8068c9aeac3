use Rattle.std.proofs.Common.{◌≡◌, ℕ, ◌<◌, map}
use Rattle.om_manager.specs.Outputs.{held_of}
use Rattle.om_explore_command.specs.Differences.{bytes_in}
use Rattle.om_explore_command.proofs.difference.first_output.Given as goal

abbrev pub invariant-loop-number : goal.invariant-loop-number
invariant-loop-number l = (k : ℕ) → k < l.number → bytes_in (map held_of l.one) k ≡ bytes_in (map held_of l.other) k
