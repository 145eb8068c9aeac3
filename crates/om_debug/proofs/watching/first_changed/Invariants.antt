use Rattle.std.proofs.Common.{◌≡◌, drop}
use Rattle.om_debug.specs.Watching.{first_changed}
use Rattle.om_debug.proofs.watching.first_changed.Given as goal

-- what is met of the rest is what is met of all
abbrev pub invariant-loop-watch : goal.invariant-loop-watch
invariant-loop-watch l = first_changed l.before l.after (drop l.watch-index l.watches) ≡ first_changed l.before l.after l.watches
