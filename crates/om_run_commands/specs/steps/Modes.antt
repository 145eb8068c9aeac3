-- What is answered to a script that was read and what refuses it, by how its cluster is run.
use Rattle.std.specs.Prelude.{◌≡◌, ◌≢◌, ℕ, List, None, Option}
use Rattle.om_process.specs.declared.status.Status.{Status}
use Rattle.om_scripts.specs.Named.{place_of}
use Rattle.om_scripts.specs.Programs.{Cluster}
use Rattle.om_commands.specs.declared.bytes_text.BytesForm.{BytesForm}
use Rattle.om_commands.specs.declared.error.CommandError.{CommandError}
use Rattle.om_run_commands.specs.Check.{IsFailureFreeIn}
use Rattle.om_run_commands.specs.ClusterScript.{ClusterFile}
use Rattle.om_run_commands.specs.Follow.{IsFollowedAnswer}
use Rattle.om_run_commands.specs.Run.{IsRunAnswer}
use Rattle.om_run_commands.specs.RunText.{TellsEnds}
use Rattle.om_run_commands.specs.declared.mode.RunMode.{RunMode}
use Rattle.om_run_commands.specs.declared.mode.RunMode.TheVariants as modes
use Rattle.om_run_commands.specs.steps.Scripts.{IsErrorOfCheckedScript, IsErrorOfRawScript, IsErrorOfScript}

-- the text of what a run of the cluster of a script ends with, which says how its processes ended
abbrev pub IsToldAnswer : BytesForm → Type 0 → List Status → ClusterFile → List ℕ → Type 0
IsToldAnswer form over_clean statuses script text = IsRunAnswer form over_clean script text × TellsEnds script.cluster statuses text

-- the text of its run without failures, which says so too
abbrev pub IsCheckedAnswer : BytesForm → List Status → ClusterFile → List ℕ → Type 0
IsCheckedAnswer form statuses script text = IsFailureFreeIn form script.cluster text × TellsEnds script.cluster statuses text

-- what was written as it was released, and then how its processes ended
abbrev pub IsFollowedTo : BytesForm → Type 0 → List Status → ClusterFile → List ℕ → Type 0
IsFollowedTo form over_clean statuses script text = IsFollowedAnswer form over_clean script text × TellsEnds script.cluster statuses text

-- the error refuses the script in a run of this mode
abbrev pub IsErrorOfScriptIn : RunMode → ClusterFile → CommandError → Type 0
IsErrorOfScriptIn modes.Check script error = IsErrorOfCheckedScript script error
IsErrorOfScriptIn modes.Witness script error = IsErrorOfCheckedScript script error
IsErrorOfScriptIn (modes.Raw name) script error = IsErrorOfRawScript name.now script error
IsErrorOfScriptIn (modes.FollowRaw name) script error = IsErrorOfRawScript name.now script error
IsErrorOfScriptIn _ script error = IsErrorOfScript script error

-- the process whose outputs are asked for is none of the cluster
abbrev pub LacksIn : RunMode → Cluster → Type 0
LacksIn (modes.Raw name) cluster = place_of name.now cluster.processes ≡ None
LacksIn (modes.FollowRaw name) cluster = place_of name.now cluster.processes ≡ None
LacksIn _ cluster = ⊥
