-- What an exploration of the runs without failures of a cluster finds.
use Rattle.std.specs.Prelude.{◌≡◌, ℕ, List, IsTrue, length, map}
use Rattle.std.specs.List.{IsAmong}
use Rattle.om_scripts.specs.Programs.{Cluster}
use Rattle.om_world.specs.declared.entry.Entry.{Entry}
use Rattle.om_explore_command.specs.Outcomes.{IsTextOf}
use Rattle.om_explore_command.specs.Tallies.{IsTally, text_of}
use Rattle.om_explore_command.specs.declared.exploration.Exploration.{Exploration}
use Rattle.om_explore_command.specs.declared.tally.Found.{Found}

-- whatever a run without failures of this cluster comes to, its text was found
abbrev pub HasAllTexts : Cluster → List Found → Type 0
HasAllTexts cluster found = (live : List Entry) (text : List ℕ) → IsTextOf cluster live text → IsAmong (map text_of found) text

-- what was found is what some runs come to, so many; and where they are all, every text is told
pub record IsExploration (cluster : Cluster) (exploration : Exploration) : Type 0 where
  pub runs : List (List Entry)
  pub tally : IsTally cluster exploration.found.items runs
  pub number : exploration.runs ≡ length runs
  pub all : IsTrue exploration.is_all → HasAllTexts cluster exploration.found.items
