-- How often runs come to each text.
use Rattle.std.specs.Prelude.{◌≡◌, ◌≢◌, ℕ, List, All, AllPairs, length, map, string_bytes, sum_by, count_by}
use Rattle.std.specs.List.{AllZip, IsAmong}
use Rattle.std.specs.Str.{bytes_eq}
use Rattle.om_scripts.specs.Programs.{Cluster}
use Rattle.om_world.specs.declared.entry.Entry.{Entry}
use Rattle.om_explore_command.specs.Outcomes.{IsOutcome, IsTextOf}
use Rattle.om_explore_command.specs.declared.outcome.Outcome.{Outcome}
use Rattle.om_explore_command.specs.declared.tally.Found.{Found}

-- the text that was found
abbrev pub text_of : Found → List ℕ
text_of found = string_bytes found.outcome.text

-- each of these texts is told, once, and how often it is among them
pub record Tells (found : List Found) (texts : List (List ℕ)) : Type 0 where
  pub once : AllPairs (λ one other. one ≢ other) (map text_of found)
  pub counted : All (λ f. f.runs ≡ count_by (bytes_eq (text_of f)) texts) found
  pub told : All (IsAmong (map text_of found)) texts

-- what one of these runs comes to
abbrev pub IsOutcomeOfOne : Cluster → List (List Entry) → Found → Type 0
IsOutcomeOfOne cluster runs found = (live : List Entry) × IsAmong runs live × IsOutcome cluster live found.outcome

-- what was found is what these runs come to: each text, how often, and what one of them came to
pub record IsTally (cluster : Cluster) (found : List Found) (runs : List (List Entry)) : Type 0 where
  pub texts : List (List ℕ)
  pub each : AllZip (IsTextOf cluster) runs texts
  pub tells : Tells found texts
  pub outcomes : All (IsOutcomeOfOne cluster runs) found
  pub total : sum_by (λ f. f.runs) found ≡ length runs
