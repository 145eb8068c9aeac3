use Rattle.std.proofs.Common.{◌≡◌, take, false}
use Rattle.std.specs.List.{list_any}
use Rattle.om_run_commands.specs.Trapped.{is_trap}
use Rattle.om_run_commands.proofs.trapped.has_trapped.Given as goal

-- none so far trapped
abbrev pub invariant-loop-status : goal.invariant-loop-status
invariant-loop-status l = list_any is_trap (take l.status-index l.statuses) ≡ false
