-- What is answered of a request, and why it is not, with the files that are given for programs.
use Rattle.std.specs.Prelude.{◌≡◌, ℕ, List, map, None, Ok, Err, Result, ⊤, string_bytes}
use Rattle.om_arguments.specs.declared.arguments.Request.{Request}
use Rattle.om_arguments.specs.declared.arguments.Request.TheVariants as requests
use Rattle.om_arguments.specs.declared.debug_request.SymbolFile.{SymbolFile}
use Rattle.om_debug_command.specs.Debug.{LacksProgram}
use Rattle.om_debug_command.specs.declared.error.DebugError.{DebugError}
use Rattle.om_debug_command.specs.declared.error.DebugError.TheVariants.{NoSuchName, Refused}
use Rattle.om_debug_command.specs.declared.symbols.Symbols.{Symbols}
use Rattle.om_outcomes.specs.declared.failure.Failure.{Failure}
use Rattle.om_outcomes.specs.declared.failure.Failure.TheVariants as failures
use Rattle.om_program.specs.Answers.{IsErrorOfRequest}

-- programs, and the files that are given for them
abbrev pub names_given : List SymbolFile → List (List ℕ × List ℕ)
names_given given = map (λ (one : SymbolFile). (one.program.now, one.file.now)) given

abbrev pub names_of : List Symbols → List (List ℕ × List ℕ)
names_of symbols = map (λ (one : Symbols). (string_bytes one.program, string_bytes one.file)) symbols

-- a file is given for a program that no process of the script of these bytes runs
pub record LacksGiven (bytes : List ℕ) (given : List SymbolFile) : Type 0 where
  pub symbols : List Symbols
  pub same : names_of symbols ≡ names_given given
  pub lacks : LacksProgram bytes symbols

-- the error refuses the request for these bytes, with these files
abbrev pub IsRefusal : Request → List SymbolFile → List ℕ → DebugError → Type 0
IsRefusal request given bytes (Refused error) = IsErrorOfRequest request bytes error
IsRefusal (requests.Debug None) given bytes NoSuchName = LacksGiven bytes given
IsRefusal request given bytes NoSuchName = ⊥

-- this is so where what is asked for was done
abbrev pub WhereAnswered : {A : Type 0} → Result A Failure → Type 0 → Type 0
WhereAnswered (Ok done) IsSo = IsSo
WhereAnswered (Err (failures.Refused error)) IsSo = ⊤
WhereAnswered (Err failures.Unread) IsSo = ⊤
WhereAnswered (Err failures.Strict) IsSo = IsSo
WhereAnswered (Err failures.NoSuchName) IsSo = ⊤

-- this is so of the error where it was refused
abbrev pub WhereNoAnswer : {A : Type 0} → Result A Failure → (DebugError → Type 0) → Type 0
WhereNoAnswer (Ok done) IsSo = ⊤
WhereNoAnswer (Err (failures.Refused error)) IsSo = IsSo (Refused error)
WhereNoAnswer (Err failures.Unread) IsSo = ⊤
WhereNoAnswer (Err failures.Strict) IsSo = ⊤
WhereNoAnswer (Err failures.NoSuchName) IsSo = IsSo NoSuchName
