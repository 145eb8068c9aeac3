-- Files with the symbols of programs.
use Rattle.std.specs.Prelude.{◌≡◌, ℕ, List, [], ◌∷◌, All, Option, None, Some, option_map, slice_get, string_bytes, if◌then◌else◌}
use Rattle.std.specs.Str.{bytes_eq}
use Rattle.om_scripts.specs.Programs.{Cluster, program_name}
use Rattle.om_debug_command.specs.declared.symbols.Symbols.{Symbols}

-- the file of the first that is of a program, if one is
abbrev pub file_of : List ℕ → List Symbols → Option (List ℕ)
file_of program [] = None
file_of program (one ∷ symbols) = if bytes_eq program (string_bytes one.program) then Some (string_bytes one.file) else file_of program symbols

-- the name of the program of the process at a place
abbrev pub program_at_place : Cluster → ℕ → Option (List ℕ)
program_at_place cluster place = option_map (λ e. program_name cluster e.1) (slice_get cluster.processes place)

abbrev pub file_if : List Symbols → Option (List ℕ) → Option (List ℕ)
file_if symbols None = None
file_if symbols (Some program) = file_of program symbols

-- a process runs the program of a name
abbrev pub IsRun : Cluster → List ℕ → Type 0
IsRun cluster program = (place : ℕ) × (program_at_place cluster place ≡ Some program)

-- each file is of a program that a process runs
abbrev pub AreRun : Cluster → List Symbols → Type 0
AreRun cluster symbols = All (λ (s : Symbols). IsRun cluster (string_bytes s.program)) symbols

-- one of the files of symbols is of a program that no process runs
abbrev pub IsUnknown : Cluster → List Symbols → Type 0
IsUnknown cluster symbols = (k : ℕ) × (one : Symbols) × (slice_get symbols k ≡ Some one) × (IsRun cluster (string_bytes one.program) → ⊥)
