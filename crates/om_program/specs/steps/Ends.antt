-- How an answer ends that is written to standard output, with which status, and what a debugger is refused for.
use Rattle.std.specs.Prelude.{◌≡◌, ◌⊎◌, ℕ, List, None, Ok, Err, Result}
use Rattle.om_arguments.specs.declared.arguments.Request.TheVariants as requests
use Rattle.om_arguments.specs.declared.debug_request.SymbolFile.{SymbolFile}
use Rattle.om_commands.specs.Command.{IsSilent}
use Rattle.om_commands.specs.declared.error.CommandError.TheVariants.{CannotWrite}
use Rattle.om_debug_command.specs.Debug.{IsErrorOfDebug}
use Rattle.om_debug_command.specs.declared.error.DebugError.{DebugError}
use Rattle.om_debug_command.specs.declared.error.DebugError.TheVariants.{NoSuchName, Refused}
use Rattle.om_outcomes.specs.declared.failure.Failure.{Failure}
use Rattle.om_outcomes.specs.declared.failure.Failure.TheVariants as failures
use Rattle.om_program.specs.Answers.{IsErrorOfDebugging}
use Rattle.om_program.specs.Refusals.{IsRefusal}

-- the end of such an outcome: that nobody wants more is no refusal
abbrev pub IsEnd : Result (Unit {0}) DebugError → Result (Unit {0}) Failure → Type 0
IsEnd (Ok done) told = told ≡ Ok done
IsEnd (Err (Refused error)) told = (told ≡ Err (failures.Refused error)) ⊎ ((error ≡ CannotWrite) × (told ≡ Err failures.Unread))
IsEnd (Err NoSuchName) told = told ≡ Err failures.NoSuchName

-- what was written where this refused a request that is written at once
abbrev pub IsSilentRefusal : DebugError → Type 0 → Type 0
IsSilentRefusal (Refused error) kept = IsSilent error kept
IsSilentRefusal NoSuchName kept = ⊥

-- the error refuses to show all processes of a record, with these files; or one, by its name
abbrev pub IsRefusalOfAll : List SymbolFile → List ℕ → DebugError → Type 0
IsRefusalOfAll given bytes error = IsRefusal (requests.Debug None) given bytes error

abbrev pub IsRefusalOfOne : List ℕ → List ℕ → DebugError → Type 0
IsRefusalOfOne name bytes (Refused error) = IsErrorOfDebugging (IsErrorOfDebug bytes name) error
IsRefusalOfOne name bytes NoSuchName = ⊥

-- the status that the program ends with: where nobody reads on it is that of a program that the signal SIGPIPE, 13, ended
abbrev pub status_of : Result (Unit {0}) Failure → ℕ
status_of (Ok done) = 0
status_of (Err (failures.Refused error)) = 1
status_of (Err failures.Unread) = 141
status_of (Err failures.Strict) = 1
status_of (Err failures.NoSuchName) = 1
