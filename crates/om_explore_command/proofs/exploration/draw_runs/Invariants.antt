use Rattle.std.proofs.Common.{List}
use Rattle.om_world.specs.declared.entry.Entry.{Entry}
use Rattle.om_explore_command.specs.Tallies.{IsTally}
use Rattle.om_explore_command.proofs.exploration.draw_runs.Given as goal

abbrev pub invariant-loop : goal.invariant-loop
invariant-loop g l = (runs : List (List Entry)) × IsTally g.J.Subject.cluster l.gathering.tally.found.items runs
