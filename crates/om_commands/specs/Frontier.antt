-- What the command `frontier` answers to the bytes of its input.
use Rattle.std.specs.Prelude.{◌≡◌, ℕ, List, None, Some}
use Rattle.om_commands.specs.Command.{AnswersScript}
use Rattle.om_commands.specs.RecordScript.{no_records, record_script_line}
use Rattle.om_commands.specs.Report.{IsReport}

-- the report on the notes of the script that these bytes are
abbrev pub IsFrontier : List ℕ → List ℕ → Type 0
IsFrontier = AnswersScript record_script_line no_records (λ script text. (n : ℕ) × (script.processes ≡ Some n) × IsReport n script.notes text)
