-- What the command debug opens.
use Rattle.std.specs.Prelude.{◌≡◌, ℕ, ◌+◌, ◌≤◌, Bool, false, List, length, Option, None, Some, option_map, slice_get, string_bytes}
use Rattle.std.specs.Io.KnownBytes.{Appends, Consumes, IsAtEnd}
use Rattle.om_scripts.specs.Programs.{programs_of}
use Rattle.om_scripts.specs.Named.{place_of}
use Rattle.om_world.specs.World.{WorldState}
use Rattle.om_commands.specs.Command.{IsScript}
use Rattle.om_commands.specs.declared.error.CommandError.{CommandError}
use Rattle.om_commands.specs.declared.error.CommandError.TheVariants as errors
use Rattle.om_commands.specs.Sim.{IsBegun, IsErrorOfSim}
use Rattle.om_commands.specs.SimScript.{EventScript, event_script_line, no_events}
use Rattle.om_timeline.specs.Timeline.{IsBegin}
use Rattle.om_debug.specs.Stops.{DebugState}
use Rattle.om_inferiors.specs.declared.inferior.Inferior.{Inferior}
use Rattle.om_inferiors.specs.declared.inferiors.Inferiors.{Inferiors}
use Rattle.om_inferiors.specs.declared.shown.Shown.{Shown}
use Rattle.om_inferiors.specs.Serving.{SessionState, Takes, session}
use Rattle.om_debug_command.specs.Symbols.{AreRun, IsUnknown, file_if, program_at_place}
use Rattle.om_debug_command.specs.declared.error.DebugError.{DebugError}
use Rattle.om_debug_command.specs.declared.error.DebugError.TheVariants.{NoSuchName, Refused}
use Rattle.om_debug_command.specs.declared.symbols.Symbols.{Symbols}

-- the process at a place, before the first event of a script, in the world that the script begins with
pub record IsPlaced (script : EventScript) (place : ℕ) (d : DebugState) : Type 0 where
  pub begun : WorldState
  pub is_begun : IsBegun (programs_of script.cluster) begun
  pub begins : IsBegin d.timeline place begun script.events

-- the process of this name
pub record IsBegunAt (script : EventScript) (name : List ℕ) (d : DebugState) : Type 0 where
  pub place : ℕ
  pub named : place_of name script.cluster.processes ≡ Some place
  pub begun : WorldState
  pub is_begun : IsBegun (programs_of script.cluster) begun
  pub begins : IsBegin d.timeline place begun script.events

-- the process of this name in the script that these bytes are
pub record IsOpened (bytes name : List ℕ) (d : DebugState) : Type 0 where
  pub script : EventScript
  pub is_script : IsScript event_script_line no_events bytes script
  pub begins : IsBegunAt script name d

-- a process among all of a script, before the first event: its number is its place and 1, and its file is that which is given for its
-- program
pub record IsMember (script : EventScript) (symbols : List Symbols) (place : ℕ) (i : Inferior) : Type 0 where
  pub number : i.number ≡ place + 1
  pub name : option_map (λ e. e.0) (slice_get script.cluster.processes place) ≡ Some (string_bytes i.name)
  pub file : option_map string_bytes i.file ≡ file_if symbols (program_at_place script.cluster place)
  pub placed : IsPlaced script place i.debugger

-- each of these shown processes is the one of its place in the script
abbrev pub AreBegun : EventScript → List Symbols → List Inferior → Type 0
AreBegun script symbols members = (place : ℕ) (i : Inferior) → slice_get members place ≡ Some i → IsMember script symbols place i

-- all processes of a script are, the first is meant, and each file that is given is of one of their programs
pub record IsBegunAll (script : EventScript) (symbols : List Symbols) (d : Inferiors) : Type 0 where
  pub count : length d.members.items ≡ length script.cluster.processes
  pub members : AreBegun script symbols d.members.items
  pub known : AreRun script.cluster symbols
  pub selected : d.selected ≡ 1
  pub focus : d.focus ≡ 1
  pub going : d.going ≡ None

-- all processes of the script that these bytes are, as `IsBegunAll` has them
pub record IsAllOpened (bytes : List ℕ) (symbols : List Symbols) (d : Inferiors) : Type 0 where
  pub script : EventScript
  pub is_script : IsScript event_script_line no_events bytes script
  pub begins : IsBegunAll script symbols d

-- packets are answered from the first on: these bytes are read, and what they are answered is written; it ends with the last
-- answer, or where there are no more bytes
pub record IsServed (d : Shown) (had left before after : Option (List ℕ)) : Type 0 where
  pub bytes : List ℕ
  pub written : List ℕ
  pub over : Bool
  pub last : SessionState
  pub takes : Takes (session d) bytes written over last
  pub consumes : Consumes had left bytes
  pub appends : Appends before after written
  pub ended : over ≡ false → IsAtEnd left

-- the bytes are a script that has processes, and none of them has the name
pub record LacksProcess (bytes name : List ℕ) : Type 0 where
  pub script : EventScript
  pub is_script : IsScript event_script_line no_events bytes script
  pub some : 1 ≤ length script.cluster.processes
  pub none : place_of name script.cluster.processes ≡ None

-- the errors of sim; or that of the processes none has the name
abbrev pub IsErrorOfDebug : List ℕ → List ℕ → CommandError → Type 0
IsErrorOfDebug bytes name errors.NoSuchProcess = LacksProcess bytes name
IsErrorOfDebug bytes name error = IsErrorOfSim bytes error

-- only these errors may come when packets were answered
abbrev pub IsBefore : CommandError → Type 0 → Type 0
IsBefore errors.CannotRead kept = Unit {0}
IsBefore errors.CannotWrite kept = Unit {0}
IsBefore errors.NoMemory kept = Unit {0}
IsBefore error kept = kept

-- the bytes are a script, and a file is given for a program that none of its processes runs
pub record LacksProgram (bytes : List ℕ) (symbols : List Symbols) : Type 0 where
  pub script : EventScript
  pub is_script : IsScript event_script_line no_events bytes script
  pub unknown : IsUnknown script.cluster symbols

-- the errors of sim; or that of a program that no process runs
abbrev pub IsErrorOfAll : List ℕ → List Symbols → DebugError → Type 0
IsErrorOfAll bytes symbols (Refused error) = IsErrorOfSim bytes error
IsErrorOfAll bytes symbols NoSuchName = LacksProgram bytes symbols

abbrev pub IsBeforeAll : DebugError → Type 0 → Type 0
IsBeforeAll (Refused error) kept = IsBefore error kept
IsBeforeAll NoSuchName kept = kept
