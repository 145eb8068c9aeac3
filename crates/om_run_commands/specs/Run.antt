-- What the command `run` answers to the bytes of its input.
use Rattle.std.specs.Prelude.{◌≡◌, ℕ, ◌≤◌, List, None, length, map}
use Rattle.om_manager.specs.Outputs.{HeldOutput, held_of}
use Rattle.om_scripts.specs.Named.{place_of}
use Rattle.om_scripts.specs.Programs.{programs_of}
use Rattle.om_report.specs.Reports.{IsReport}
use Rattle.om_report.specs.declared.report.Report.{Report}
use Rattle.om_commands.specs.Command.{IsErrorOf, IsScript}
use Rattle.om_run_commands.specs.ClusterScript.{ClusterFile, cluster_file_line, no_settings}
use Rattle.om_run_commands.specs.RunText.{raw_text, run_text_in}
use Rattle.om_process.specs.declared.status.Status.{Status}
use Rattle.om_commands.specs.declared.bytes_text.BytesForm.{BytesForm}
use Rattle.om_commands.specs.declared.error.CommandError.{CommandError}
use Rattle.om_commands.specs.declared.error.CommandError.TheVariants as errors

-- the outputs of each process, each at the place that is its number
abbrev pub outputs_of : Report → List (List HeldOutput)
outputs_of report = map (λ outputs. map held_of outputs.items) report.released.items

-- the text of what a run of the cluster of a script ends with, with the bytes of outputs in a form
abbrev pub IsRunAnswer : BytesForm → Type 0 → ClusterFile → List ℕ → Type 0
IsRunAnswer form over_clean script text = (report : Report) × IsReport over_clean (programs_of script.cluster) report
    × (text ≡ run_text_in form script.cluster (outputs_of report) report.statuses.items)

-- The text is the bytes that the process of a name put out in a run of the cluster of a script, which ended with these statuses.
pub record IsRawAnswer (name : List ℕ) (over_clean : Type 0) (statuses : List Status) (script : ClusterFile) (text : List ℕ) : Type 0 where
  pub report : Report
  pub is_report : IsReport over_clean (programs_of script.cluster) report
  pub ended : statuses ≡ report.statuses.items
  pub is_text : text ≡ raw_text name script.cluster (outputs_of report)

-- the bytes are a cluster file of a process or more
pub record IsClusterFile (bytes : List ℕ) : Type 0 where
  pub script : ClusterFile
  pub is_script : IsScript cluster_file_line no_settings bytes script
  pub some : 1 ≤ length script.cluster.processes

-- What is known of an error, by its kind: this of one with which a run comes to no end, that of the others; and of a writer that refused and
-- of want of memory, which come whatever the input is, nothing.
abbrev pub IsByKind : CommandError → Type 0 → Type 0 → Type 0
IsByKind errors.CannotWrite run other = Unit {0}
IsByKind errors.NoMemory run other = Unit {0}
IsByKind errors.OutOfTurns run other = run
IsByKind errors.GateShut run other = run
IsByKind errors.StoreFault run other = run
IsByKind (errors.StoreInUse process) run other = run
IsByKind (errors.AnotherCluster process) run other = run
IsByKind (errors.StoreMissing process) run other = run
IsByKind errors.NoThread run other = run
IsByKind _ run other = other

-- The error is that of the bytes; those of a run come only where they are a cluster file.
abbrev pub IsErrorOfRun : List ℕ → CommandError → Type 0
IsErrorOfRun bytes error = IsByKind error (IsClusterFile bytes)
    (IsErrorOf cluster_file_line no_settings (λ script. length script.cluster.processes ≡ 0) bytes error)

-- no process of the cluster file that these bytes are has the name
abbrev pub LacksProcess : List ℕ → List ℕ → Type 0
LacksProcess name bytes = (script : ClusterFile) × IsScript cluster_file_line no_settings bytes script × (place_of name script.cluster.processes ≡ None)
