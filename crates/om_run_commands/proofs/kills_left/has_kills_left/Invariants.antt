use Rattle.std.proofs.Common.{◌≡◌, ◌<◌, ℕ, false}
use Rattle.om_run_commands.specs.KillsLeft.{is_left}
use Rattle.om_run_commands.proofs.kills_left.has_kills_left.Given as goal

-- none so far is left
abbrev pub invariant-loop-i : goal.invariant-loop-i
invariant-loop-i l = (k : ℕ) → k < l.i → is_left l.kills l.failures k ≡ false
