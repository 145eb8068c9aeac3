-- What is answered to a cluster file and what refuses it, by how its cluster is run.
use Rattle.std.specs.Prelude.{ℕ, IfErr, List, Option, Result}
use Rattle.std.specs.Io.KnownBytes.{Keeps}
use Rattle.om_process.specs.declared.status.Status.{Status}
use Rattle.om_commands.specs.declared.bytes_text.BytesForm.{BytesForm}
use Rattle.om_commands.specs.declared.error.CommandError.{CommandError}
use Rattle.om_commands.specs.declared.error.CommandError.TheVariants as errors
use Rattle.om_commands.specs.Command.{AnswersScript, IsScript, IsSilent}
use Rattle.om_run_commands.specs.Check.{IsFailureFreeIn}
use Rattle.om_run_commands.specs.ClusterScript.{ClusterFile, cluster_file_line, no_settings}
use Rattle.om_run_commands.specs.Follow.{IsFollowedAnswer, IsFollowedRawAnswer, IsPartOf, IsRawPartOf, told_text}
use Rattle.om_run_commands.specs.Run.{IsClusterFile, IsErrorOfRun, IsRawAnswer, IsRunAnswer, LacksProcess}
use Rattle.om_run_commands.specs.RunText.{TellsEnds}
use Rattle.om_run_commands.specs.declared.mode.RunMode.{RunMode}
use Rattle.om_run_commands.specs.declared.mode.RunMode.TheVariants as modes

-- The text answers the script in a run of its cluster in this mode that ended with these statuses, with the bytes of outputs in a form; where
-- stores are clean it is the programs' own. But for `--raw`, how each process ended stands at its end.
abbrev pub IsAnswerIn : RunMode → BytesForm → Type 0 → List Status → ClusterFile → List ℕ → Type 0
IsAnswerIn modes.Check form over_clean statuses script text = IsFailureFreeIn form script.cluster text × TellsEnds script.cluster statuses text
IsAnswerIn modes.Witness form over_clean statuses script text = IsFailureFreeIn form script.cluster text × TellsEnds script.cluster statuses text
IsAnswerIn modes.Follow form over_clean statuses script text = IsFollowedAnswer form over_clean script text × TellsEnds script.cluster statuses text
IsAnswerIn (modes.Raw name) form over_clean statuses script text = IsRawAnswer name.now over_clean statuses script text
IsAnswerIn (modes.FollowRaw name) form over_clean statuses script text = IsFollowedRawAnswer name.now over_clean statuses script text
IsAnswerIn _ form over_clean statuses script text = IsRunAnswer form over_clean script text × TellsEnds script.cluster statuses text

-- the text answers so the cluster file that these bytes are
abbrev pub IsRunIn : RunMode → BytesForm → Type 0 → List Status → List ℕ → List ℕ → Type 0
IsRunIn mode form over_clean statuses bytes text = AnswersScript cluster_file_line no_settings (IsAnswerIn mode form over_clean statuses) bytes text

-- The error refuses these bytes in a run of this mode: with a check it may also be that the run is unlike it, and with `--raw` that no process
-- has the name.
abbrev pub IsErrorIn : RunMode → List ℕ → CommandError → Type 0
IsErrorIn modes.Check bytes errors.Unlike = IsClusterFile bytes
IsErrorIn modes.Witness bytes errors.Unlike = IsClusterFile bytes
IsErrorIn (modes.Raw name) bytes errors.NoSuchProcess = LacksProcess name.now bytes
IsErrorIn (modes.FollowRaw name) bytes errors.NoSuchProcess = LacksProcess name.now bytes
IsErrorIn _ bytes error = IsErrorOfRun bytes error

-- what is written of a run of this mode is written as it is released
abbrev pub IsFollowing : RunMode → Type 0
IsFollowing modes.Follow = Unit {0}
IsFollowing (modes.FollowRaw name) = Unit {0}
IsFollowing _ = ⊥

-- a run in no such mode that was refused wrote nothing, unless it was the writer that refused
abbrev pub IsSilentIn : {A : Type 0} → RunMode → Result A CommandError → Option (List ℕ) → Option (List ℕ) → Type 0
IsSilentIn mode result before after = (IsFollowing mode → ⊥) → IfErr result (λ error. IsSilent error (Keeps before after))

-- what was written of a run of a script in such a mode that came to no end
abbrev pub IsPartOfScriptIn : RunMode → BytesForm → Type 0 → ClusterFile → Option (List ℕ) → Option (List ℕ) → Type 0
IsPartOfScriptIn modes.Follow form over_clean script before after = IsPartOf (told_text form script.cluster) over_clean script before after
IsPartOfScriptIn (modes.FollowRaw name) form over_clean script before after = IsRawPartOf name.now over_clean script before after
IsPartOfScriptIn _ form over_clean script before after = ⊥

-- what was written of a run of the cluster file that these bytes are, in a mode, that came to no end
abbrev pub IsPartIn : RunMode → BytesForm → Type 0 → List ℕ → Option (List ℕ) → Option (List ℕ) → Type 0
IsPartIn mode form over_clean bytes before after = (script : ClusterFile) × IsScript cluster_file_line no_settings bytes script
    × IsPartOfScriptIn mode form over_clean script before after

-- what a run needs cannot be made ready: a file beside it, a store, or for want of memory
abbrev pub IsErrorOfContext : CommandError → Type 0
IsErrorOfContext errors.CannotWrite = Unit {0}
IsErrorOfContext errors.NoMemory = Unit {0}
IsErrorOfContext errors.StoreFault = Unit {0}
IsErrorOfContext _ = ⊥
