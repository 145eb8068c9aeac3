-- What every command over a script answers to the bytes of its input.
use Rattle.std.specs.Prelude.{◌≡◌, ℕ, ◌<◌, ◌≤◌, List, length, map, Result, Ok, Err}
use Rattle.std.specs.Str.Lines.{lines}
use Rattle.om_text.specs.Script.{Meaning, numbered, script_from}
use Rattle.om_text.specs.Words.{words_of}
use Rattle.om_text.specs.declared.error.ScriptError.{ScriptError}
use Rattle.om_text.specs.declared.text.TheConstants.{MAX_BYTES}
use Rattle.om_commands.specs.declared.error.CommandError.{CommandError}
use Rattle.om_commands.specs.declared.error.CommandError.TheVariants as errors

-- what the lines of a text give from this start on
abbrev pub script_of : {State : Type 0} → Meaning State → State → List ℕ → Result State ScriptError
script_of meaning start bytes = script_from meaning start (numbered 1 (map words_of (lines bytes)))

-- the bytes are not too many, and their lines give this script
pub record IsScript {State : Type 0} (meaning : Meaning State) (start : State) (bytes : List ℕ) (script : State) : Type 0 where
  pub short : length bytes ≤ MAX_BYTES
  pub read : script_of meaning start bytes ≡ Ok script

-- the text answers the script that these bytes are
pub record AnswersScript {State : Type 0} (meaning : Meaning State) (start : State) (Answers : State → List ℕ → Type 0)
    (bytes text : List ℕ) : Type 0 where
  pub script : State
  pub is_script : IsScript meaning start bytes script
  pub answer : Answers script text

-- The error is that of the bytes, where a script that is empty is one. Those of the reader, the writer and memory may
-- come whatever the bytes are.
abbrev pub IsErrorOf : {State : Type 0} → Meaning State → State → (State → Type 0) → List ℕ → CommandError → Type 0
IsErrorOf meaning start IsEmpty bytes errors.TooLong = MAX_BYTES < length bytes
IsErrorOf meaning start IsEmpty bytes errors.CannotRead = Unit {0}
IsErrorOf meaning start IsEmpty bytes errors.CannotWrite = Unit {0}
IsErrorOf meaning start IsEmpty bytes errors.NoMemory = Unit {0}
IsErrorOf meaning start IsEmpty bytes errors.EmptyScript = (script : _) × IsScript meaning start bytes script × IsEmpty script
IsErrorOf meaning start IsEmpty bytes (errors.Script error) = (length bytes ≤ MAX_BYTES) × (script_of meaning start bytes ≡ Err error)
IsErrorOf meaning start IsEmpty bytes _ = ⊥

-- no error but a writer's leaves anything written
abbrev pub IsSilent : CommandError → Type 0 → Type 0
IsSilent errors.CannotWrite kept = Unit {0}
IsSilent _ kept = kept
