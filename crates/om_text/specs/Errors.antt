-- The texts of the faults.
use Rattle.std.specs.Prelude.{ℕ, List, ◌++◌, Option, Some, codes, decimal}
use Rattle.om_text.specs.declared.error.LineError.{LineError}
use Rattle.om_text.specs.declared.error.LineError.TheVariants.{UnknownLine, WrongCount, BadNumber, BadWord, BadName, NameTaken, NoSuchName, OutOfPlace, TooMany, BadSize, ImageTooLong}
use Rattle.om_text.specs.declared.error.ScriptError.{ScriptError}
use Rattle.om_text.specs.declared.error.BuildError.{BuildError}
use Rattle.om_text.specs.declared.error.BuildError.TheVariants as errors
use Rattle.om_text.specs.declared.text.ReadError.{ReadError}
use Rattle.om_text.specs.declared.text.ReadError.TheVariants.{TooLong, CannotRead, Memory}

-- what is wrong with a line
abbrev pub line_error_text : LineError → List ℕ
line_error_text UnknownLine = codes "unknown line"
line_error_text WrongCount = codes "wrong count of words"
line_error_text BadNumber = codes "bad number"
line_error_text BadWord = codes "bad word"
line_error_text BadName = codes "bad name"
line_error_text NameTaken = codes "name taken"
line_error_text NoSuchName = codes "no such name"
line_error_text OutOfPlace = codes "out of place"
line_error_text TooMany = codes "too many"
line_error_text BadSize = codes "bad size"
line_error_text ImageTooLong = codes "image too long"

-- the line's number, and what is wrong with it
abbrev pub script_error_text : ScriptError → List ℕ
script_error_text error = codes "line " ++ decimal error.line ++ codes ": " ++ line_error_text error.error

-- the error, by the text of its type, or that memory ran out
abbrev pub build_error_text : {F : Type 0} → (F → Option (List ℕ)) → BuildError F → Option (List ℕ)
build_error_text text (errors.Invalid error) = text error
build_error_text text errors.Memory = Some (codes "no memory")

-- why the bytes could not be had
abbrev pub read_error_text : ReadError → List ℕ
read_error_text TooLong = codes "too long"
read_error_text CannotRead = codes "cannot read"
read_error_text Memory = codes "no memory"
