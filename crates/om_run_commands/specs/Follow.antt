-- What the command `run --follow` writes, with `--raw` too.
use Rattle.std.specs.Prelude.{◌≡◌, ℕ, List, ◌++◌, Option, Some, length}
use Rattle.std.specs.Io.KnownBytes.{Appends}
use Rattle.std.specs.List.{flat_map}
use Rattle.om_board.specs.declared.front.Front.{Front}
use Rattle.om_process.specs.declared.status.Status.{Status}
use Rattle.om_scripts.specs.Named.{place_of}
use Rattle.om_scripts.specs.Programs.{Cluster, programs_of}
use Rattle.om_report.specs.Reports.{IsToldReport}
use Rattle.om_runner.specs.Telling.{AreInOrder, AreToldMade, Told, of_process}
use Rattle.om_run_commands.specs.ClusterScript.{ClusterFile}
use Rattle.om_run_commands.specs.RunText.{ends_text}
use Rattle.om_commands.specs.SimText.{name_at, output_line}
use Rattle.om_commands.specs.declared.bytes_text.BytesForm.{BytesForm}

-- a line for each output, in their order, with its bytes in a form
abbrev pub told_text : BytesForm → Cluster → List Told → List ℕ
told_text form cluster told = flat_map (λ t. output_line form (name_at cluster t.process) t.number t.bytes) told

-- The text of what a run of the cluster of a script ends with: a line for each output that is released, those of a process in
-- order and each once, and then how each process ended.
pub record IsFollowedAnswer (form : BytesForm) (over_clean : Type 0) (script : ClusterFile) (text : List ℕ) : Type 0 where
  pub statuses : List Status
  pub front : Front
  pub told : List Told
  pub is_told : IsToldReport over_clean (programs_of script.cluster) statuses front told
  pub is_text : text ≡ told_text form script.cluster told ++ ends_text script.cluster statuses

-- what was written is this text of some outputs, those of a process in order of their numbers, from 0 without a gap; over clean stores
-- each is its program's
abbrev pub IsPartOf : (List Told → List ℕ) → Type 0 → ClusterFile → Option (List ℕ) → Option (List ℕ) → Type 0
IsPartOf text_of over_clean script before after = (told : List Told) × AreInOrder told
    × (over_clean → AreToldMade (programs_of script.cluster) (length (programs_of script.cluster)) told) × Appends before after (text_of told)

-- the bytes of what was told of process p, one output behind the other
abbrev pub bytes_told : ℕ → List Told → List ℕ
bytes_told p told = flat_map (λ t. t.bytes) (of_process p told)

-- The text is the bytes of the outputs that are released of process p, one behind the other, in a run of the cluster of a script that
-- ended with these statuses.
pub record IsBytesAnswer (p : ℕ) (over_clean : Type 0) (statuses : List Status) (script : ClusterFile) (text : List ℕ) : Type 0 where
  pub front : Front
  pub told : List Told
  pub is_told : IsToldReport over_clean (programs_of script.cluster) statuses front told
  pub is_text : text ≡ bytes_told p told

-- the answer of `IsBytesAnswer` for the process of a name
abbrev pub IsFollowedRawAnswer : List ℕ → Type 0 → List Status → ClusterFile → List ℕ → Type 0
IsFollowedRawAnswer name over_clean statuses script text =
    (p : ℕ) × (place_of name script.cluster.processes ≡ Some p) × IsBytesAnswer p over_clean statuses script text

-- what was written is the bytes of the first outputs of the process of a name, one behind the other
abbrev pub IsRawPartOf : List ℕ → Type 0 → ClusterFile → Option (List ℕ) → Option (List ℕ) → Type 0
IsRawPartOf name over_clean script before after =
    (p : ℕ) × (place_of name script.cluster.processes ≡ Some p) × IsPartOf (bytes_told p) over_clean script before after
