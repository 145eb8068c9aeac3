use Rattle.std.proofs.Common.{◌≡◌, length}
use Rattle.std.specs.Prelude.{All}
use Rattle.om_run_commands.specs.RandomKills.{IsDrawn}
use Rattle.om_run_commands.proofs.random_kills.RandomKills.of.Given as goal

-- as many as were asked for so far, each drawn
abbrev pub invariant-loop : goal.invariant-loop
invariant-loop l = (length l.kills.items ≡ l.counter) × All (IsDrawn l.n) l.kills.items
