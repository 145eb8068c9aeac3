-- What the lines of a record script mean.
use Rattle.std.specs.Prelude.{ℕ, ◌+◌, Bool, ◌||◌, not, false, List, [], ◌∷◌, ◌++◌, drop, length, slice_index, Option, None, Some, is_some, is_none, Result, Ok, Err, nat_lt, if◌then◌else◌, ◌==◌, codes}
use Rattle.std.specs.Str.{bytes_eq}
use Rattle.om_interval.specs.declared.pid.TheConstants.{MAX_PROCESSES}
use Rattle.om_recover.specs.declared.row.RowKind.{RowKind}
use Rattle.om_recover.specs.declared.row.RowKind.TheVariants.{Checkpoint, Log}
use Rattle.om_text.specs.Numbers.{number_of}
use Rattle.std.specs.Option.{ok_or}
use Rattle.om_text.specs.Reading.{◌>>=◌, all_read, refused}
use Rattle.om_text.specs.declared.error.LineError.{LineError}
use Rattle.om_text.specs.declared.error.LineError.TheVariants.{UnknownLine, WrongCount, BadNumber, OutOfPlace}
use Rattle.om_commands.specs.declared.record_script.NoteLine.{NoteLine}

-- what has been read: the number of processes, once it is given, and the notes in order
pub record RecordLines : Type 0 where
  pub processes : Option ℕ
  pub notes : List NoteLine

-- nothing has been read
abbrev pub no_records : RecordLines
no_records = record { processes = None; notes = [] }

-- a line `procs N`, once
abbrev pub processes_line : RecordLines → List (List ℕ) → Result RecordLines LineError
processes_line script (word ∷ []) = do
  n ← ok_or (number_of word) BadNumber
  _ ← refused (nat_lt n 1 || nat_lt MAX_PROCESSES n) BadNumber
  _ ← refused (is_some script.processes) OutOfPlace
  Ok (record script { processes = Some n })
processes_line script _ = Err WrongCount

-- a note has a process, an interval, and a place for each process; while their number is not known no count is wrong
abbrev pub has_wrong_count : Option ℕ → List (List ℕ) → Bool
has_wrong_count None words = false
has_wrong_count (Some n) words = not (length words == n + 2)

-- the note of these numbers: process, interval, and the vector
abbrev pub note_of : RowKind → List ℕ → NoteLine
note_of kind numbers = record { kind = kind; pid = slice_index numbers 0; interval = slice_index numbers 1; vec = drop 2 numbers }

-- a line `log P X V0 ..` or `ckpt P X V0 ..`, once the number of processes is given
abbrev pub note_line : RowKind → RecordLines → List (List ℕ) → Result RecordLines LineError
note_line kind script words = do
  _ ← refused (has_wrong_count script.processes words) WrongCount
  numbers ← all_read number_of BadNumber words
  _ ← refused (is_none script.processes) OutOfPlace
  Ok (record script { notes = script.notes ++ note_of kind numbers ∷ [] })

-- a line of a record script, by its first word
abbrev pub record_script_line : RecordLines → List (List ℕ) → Result RecordLines LineError
record_script_line script [] = Err UnknownLine
record_script_line script (first ∷ words) =
    if bytes_eq first (codes "procs") then processes_line script words
    else (if bytes_eq first (codes "log") then note_line Log script words
    else (if bytes_eq first (codes "ckpt") then note_line Checkpoint script words
    else Err UnknownLine))
