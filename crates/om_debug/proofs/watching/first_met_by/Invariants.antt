use Rattle.std.proofs.Common.{◌≡◌, drop, Some}
use Rattle.om_debug.specs.Watching.{first_met}
use Rattle.om_debug.proofs.watching.first_met_by.Given as goal

-- what is met of the rest is what is met of all
abbrev pub invariant-loop-watch : goal.invariant-loop-watch
invariant-loop-watch l = first_met (Some l.access) (drop l.watch-index l.watches) ≡ first_met (Some l.access) l.watches
