-- What the lines of a cluster file mean: its programs and processes, and then how it is run.
use Rattle.std.specs.Prelude.{ℕ, true, not, List, [], ◌∷◌, ◌++◌, length, Option, Result, Ok, Err, nat_le, if◌then◌else◌, ◌==◌, codes}
use Rattle.std.specs.Str.{bytes_eq}
use Rattle.om_text.specs.Numbers.{number_of, long_number_of}
use Rattle.std.specs.Option.{ok_or}
use Rattle.om_text.specs.Reading.{◌>>=◌, refused}
use Rattle.om_text.specs.declared.error.LineError.{LineError}
use Rattle.om_text.specs.declared.error.LineError.TheVariants.{UnknownLine, WrongCount, BadNumber, BadName, NoSuchName, TooMany}
use Rattle.om_scripts.specs.Named.{is_name, place_of}
use Rattle.om_scripts.specs.Programs.{Cluster, no_programs, script_line}
use Rattle.om_scripts.specs.declared.programs.TheConstants.{MAX_KILLS}
use Rattle.om_run_commands.specs.declared.cluster_script.TheConstants.{DEFAULT_CHECKPOINT, DEFAULT_FLUSH, DEFAULT_FUEL}

-- what has been read: the programs and processes; which processes are to fail, each in which interval; after how many
-- receipts a process stores its volatile log, and after how many a checkpoint; and how many instructions a turn has
pub record ClusterFile : Type 0 where
  pub cluster : Cluster
  pub kills : List (ℕ × ℕ)
  pub flush : ℕ
  pub checkpoint : ℕ
  pub fuel : ℕ

-- nothing has been read
abbrev pub no_settings : ClusterFile
no_settings = record { cluster = no_programs; kills = []; flush = DEFAULT_FLUSH; checkpoint = DEFAULT_CHECKPOINT; fuel = DEFAULT_FUEL }

-- a cluster file behind which no line of a program or a process may stand
abbrev pub closed : ClusterFile → ClusterFile
closed script = record script { cluster = record script.cluster { is_closed = true } }

-- `kill NAME INTERVAL`, by the words behind its first
abbrev pub kill_line : ClusterFile → List (List ℕ) → Result ClusterFile LineError
kill_line script (name ∷ interval ∷ []) = do
  x ← ok_or (number_of interval) BadNumber
  _ ← refused (not (is_name name)) BadName
  p ← ok_or (place_of name script.cluster.processes) NoSuchName
  _ ← refused (nat_le MAX_KILLS (length script.kills)) TooMany
  Ok (closed (record script { kills = script.kills ++ (p, x) ∷ [] }))
kill_line script _ = Err WrongCount

-- a number of receipts or instructions, 1 or more
abbrev pub count_in : (List ℕ → Option ℕ) → List (List ℕ) → Result ℕ LineError
count_in read (word ∷ []) = do
  k ← ok_or (read word) BadNumber
  _ ← refused (k == 0) BadNumber
  Ok k
count_in read _ = Err WrongCount

-- a line that says how the cluster is run, by its first word and those behind it. `flush K`, `checkpoint K` and `fuel K` stand in place
-- of what was said before
abbrev pub setting_line : ClusterFile → List ℕ → List (List ℕ) → Result ClusterFile LineError
setting_line script first words =
    if bytes_eq first (codes "kill") then kill_line script words
    else (if bytes_eq first (codes "flush") then (count_in number_of words >>= λ k. Ok (closed (record script { flush = k })))
    else (if bytes_eq first (codes "checkpoint") then (count_in number_of words >>= λ k. Ok (closed (record script { checkpoint = k })))
    else (if bytes_eq first (codes "fuel") then (count_in long_number_of words >>= λ k. Ok (closed (record script { fuel = k })))
    else Err UnknownLine)))

-- a line, by its first word
abbrev pub cluster_file_line : ClusterFile → List (List ℕ) → Result ClusterFile LineError
cluster_file_line script words = script_line script.cluster (λ next. record script { cluster = next }) (setting_line script) words
