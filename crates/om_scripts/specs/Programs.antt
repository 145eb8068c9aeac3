-- What the lines mean that give a cluster's programs and its processes.
use Rattle.std.specs.Prelude.{◌≡◌, ℕ, ◌*◌, ◌≤◌, Bool, false, true, not, ◌||◌, List, [], ◌∷◌, ◌++◌, length, flat_map, map, slice_index_or, Result, Ok, Err, codes, if◌then◌else◌, is_some, nat_lt, nat_le}
use Rattle.std.specs.Int.{to_le_bytes, w32}
use Rattle.std.specs.Str.{bytes_eq}
use Rattle.om_interval.specs.declared.pid.TheConstants.{MAX_PROCESSES}
use Rattle.om_isa.specs.declared.ext.Ext.{Ext}
use Rattle.om_isa.specs.declared.ext.Ext.TheVariants.{I, Im}
use Rattle.om_isa.specs.Memory.{is_memory_size}
use Rattle.om_process.specs.Process.{Program}
use Rattle.om_text.specs.Numbers.{number_of, hex_word}
use Rattle.std.specs.Option.{ok_or}
use Rattle.om_text.specs.Reading.{◌>>=◌, all_read, refused}
use Rattle.om_text.specs.declared.error.LineError.{LineError}
use Rattle.om_text.specs.declared.error.LineError.TheVariants.{UnknownLine, WrongCount, BadNumber, BadWord, BadName, NameTaken, NoSuchName, OutOfPlace, TooMany, BadSize, ImageTooLong}
use Rattle.om_scripts.specs.Named.{is_name, place_of}

-- what has been read: the programs by name, the processes by name, each with the place of its program, and whether other
-- lines have begun
pub record Cluster : Type 0 where
  pub programs : List (List ℕ × Program)
  pub processes : List (List ℕ × ℕ)
  pub is_closed : Bool

-- nothing has been read
abbrev pub no_programs : Cluster
no_programs = record { programs = []; processes = []; is_closed = false }

-- a machine is loaded with the program
pub record IsProgram (p : Program) : Type 0 where
  pub size : is_memory_size p.size ≡ true
  pub fits : length p.image ≤ p.size

-- the program at a place
abbrev pub program_at : Cluster → ℕ → Program
program_at cluster place = (slice_index_or cluster.programs place ([], record { image = []; size = 0; ext = I })).1

-- the name of the program at a place
abbrev pub program_name : Cluster → ℕ → List ℕ
program_name cluster place = (slice_index_or cluster.programs place ([], record { image = []; size = 0; ext = I })).0

-- the program of each process
abbrev pub programs_of : Cluster → List Program
programs_of cluster = map (λ e. program_at cluster e.1) cluster.processes

-- the program of an image in words
abbrev pub program_in : Ext → ℕ → List ℕ → Program
program_in ext size words = record { image = flat_map (to_le_bytes w32) words; size = size; ext = ext }

-- a line `program NAME SIZE WORD ..`, by the words behind its first
abbrev pub program_line : Ext → Cluster → List (List ℕ) → Result Cluster LineError
program_line ext cluster (name ∷ size ∷ words) = do
  bytes ← ok_or (number_of size) BadNumber
  image ← all_read hex_word BadWord words
  _ ← refused (not (is_name name)) BadName
  _ ← refused (is_some (place_of name cluster.programs)) NameTaken
  _ ← refused cluster.is_closed OutOfPlace
  _ ← refused (not (is_memory_size bytes)) BadSize
  _ ← refused (nat_lt bytes (4 * length image)) ImageTooLong
  Ok (record cluster { programs = cluster.programs ++ (name, program_in ext bytes image) ∷ [] })
program_line ext cluster _ = Err WrongCount

-- a line `proc NAME PROGRAM`, by the words behind its first
abbrev pub process_line : Cluster → List (List ℕ) → Result Cluster LineError
process_line cluster (name ∷ program ∷ []) = do
  _ ← refused (not (is_name name) || not (is_name program)) BadName
  _ ← refused (is_some (place_of name cluster.processes)) NameTaken
  place ← ok_or (place_of program cluster.programs) NoSuchName
  _ ← refused cluster.is_closed OutOfPlace
  _ ← refused (nat_le MAX_PROCESSES (length cluster.processes)) TooMany
  Ok (record cluster { processes = cluster.processes ++ (name, place) ∷ [] })
process_line cluster _ = Err WrongCount

-- a line of a script that has programs and processes, by its first word: of one of these, behind which the script is as is said,
-- or another
abbrev pub script_line : {S : Type 0} → Cluster → (Cluster → S) → (List ℕ → List (List ℕ) → Result S LineError) → List (List ℕ) → Result S LineError
script_line cluster behind other [] = Err UnknownLine
script_line cluster behind other (first ∷ words) =
    if bytes_eq first (codes "program") then (program_line I cluster words >>= λ next. Ok (behind next))
    else (if bytes_eq first (codes "program-m") then (program_line Im cluster words >>= λ next. Ok (behind next))
    else (if bytes_eq first (codes "proc") then (process_line cluster words >>= λ next. Ok (behind next))
    else other first words))
