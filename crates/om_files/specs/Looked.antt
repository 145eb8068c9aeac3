-- What is told of a store in a file: no contract says what a file holds, only that it holds some bytes.
use Rattle.std.specs.Prelude.{◌⊎◌, ℕ, List}
use Rattle.om_stable.specs.Content.{Content}
use Rattle.om_commands.specs.Replay.{IsNoMatterOfContent}
use Rattle.om_commands.specs.declared.error.CommandError.{CommandError}
use Rattle.om_look_commands.specs.Looks.{IsSoIn}

-- this is so of the content of a database that some bytes of a file and of its log hold, where it is a store of two tables
abbrev pub IsSoOfFile : (Content → Type 0) → Type 0
IsSoOfFile IsSo = (file : List ℕ) × (log : List ℕ) × IsSoIn file log IsSo

-- the error is one that such a content has, or none that a content tells
abbrev pub IsErrorOfFile : (Content → CommandError → Type 0) → CommandError → Type 0
IsErrorOfFile IsErrorOf error = IsNoMatterOfContent error ⊎ IsSoOfFile (λ held. IsErrorOf held error)
