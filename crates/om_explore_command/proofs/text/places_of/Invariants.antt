use Rattle.std.proofs.Common.{◌≡◌, length}
use Rattle.om_explore_command.specs.ExplorationText.{DifferAt}
use Rattle.om_explore_command.proofs.text.places_of.Given as goal

-- those so far
abbrev pub invariant-loop-k : goal.invariant-loop-k
invariant-loop-k l = record {
  number : length l.places.items ≡ l.k;
  each : DifferAt l.n l.found l.places.items;
}
