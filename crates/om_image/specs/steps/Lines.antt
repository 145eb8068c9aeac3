-- What the line of a program is made of.
use Rattle.std.specs.Prelude.{◌≡◌, ℕ, List, ◌∷◌, flat_map, Result, Ok, Err}
use Rattle.om_isa.specs.declared.ext.Ext.{Ext}
use Rattle.om_text.specs.declared.error.BuildError.{BuildError}
use Rattle.om_text.specs.declared.error.BuildError.TheVariants as building
use Rattle.om_text.specs.declared.error.LineError.{LineError}
use Rattle.om_scripts.specs.Programs.{Cluster, no_programs, program_line}
use Rattle.om_image.specs.Image.{IsElf, IsRefused}
use Rattle.om_image.specs.declared.error.ImageError.{ImageError}
use Rattle.om_image.specs.declared.error.ImageError.TheVariants as errors

-- the words, each behind a space
abbrev pub spaced : List (List ℕ) → List ℕ
spaced words = flat_map (λ word. 32 ∷ word) words

-- what reading the line of a program with these words came to
abbrev pub IsTaken : Ext → List (List ℕ) → Result (Unit {0}) (BuildError LineError) → Type 0
IsTaken ext words (Ok done) = (cluster : Cluster) × (program_line ext no_programs words ≡ Ok cluster)
IsTaken ext words (Err (building.Invalid error)) = program_line ext no_programs words ≡ Err error
IsTaken ext words (Err building.Memory) = Unit {0}

-- why there is no line of these bytes
abbrev pub IsErrorOfLine : Ext → List ℕ → List ℕ → List ℕ → ImageError → Type 0
IsErrorOfLine ext name size bytes (errors.Line error) = IsRefused ext name size bytes error
IsErrorOfLine ext name size bytes errors.Elf = IsElf bytes
IsErrorOfLine ext name size bytes errors.NoMemory = Unit {0}
IsErrorOfLine ext name size bytes errors.CannotRead = ⊥
IsErrorOfLine ext name size bytes errors.CannotWrite = ⊥
