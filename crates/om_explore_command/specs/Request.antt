-- What the command `explore` answers to the bytes of its input.
use Rattle.std.specs.Prelude.{ℕ, Bool, List}
use Rattle.om_commands.specs.Command.{AnswersScript}
use Rattle.om_commands.specs.declared.bytes_text.BytesForm.{BytesForm}
use Rattle.om_run_commands.specs.ClusterScript.{ClusterFile, cluster_file_line, no_settings}
use Rattle.om_explore_command.specs.Explorations.{IsExploration}
use Rattle.om_explore_command.specs.ExplorationText.{IsExplorationText}
use Rattle.om_explore_command.specs.declared.exploration.Exploration.{Exploration}

-- the text of an exploration of the cluster of a script, of which it is said whether all runs were asked for, with the bytes of outputs
-- in a form
abbrev pub IsExploreAnswer : BytesForm → Bool → ClusterFile → List ℕ → Type 0
IsExploreAnswer form is_asked script text = (exploration : Exploration) × IsExploration script.cluster exploration
    × IsExplorationText form script.cluster is_asked exploration text

-- the answer to the cluster file that these bytes are
abbrev pub IsExploredFile : BytesForm → Bool → List ℕ → List ℕ → Type 0
IsExploredFile form is_asked bytes text = AnswersScript cluster_file_line no_settings (IsExploreAnswer form is_asked) bytes text
