-- The `program` line of a raw image.
use Rattle.std.specs.Prelude.{◌≡◌, ◌≢◌, ℕ, ◌+◌, ◌<◌, List, [], ◌∷◌, ◌++◌, codes, flat_map, map, replicate, take, Some, Ok, Err}
use Rattle.std.specs.Int.{to_le_bytes, w32}
use Rattle.std.specs.Str.Lines.{lines}
use Rattle.om_isa.specs.declared.memory.TheConstants.{MAX_MEMORY}
use Rattle.om_isa.specs.declared.ext.Ext.{Ext}
use Rattle.om_isa.specs.declared.ext.Ext.TheVariants.{I, Im}
use Rattle.om_look.specs.Trace.{word_text}
use Rattle.om_process.specs.Process.{Program}
use Rattle.om_text.specs.Numbers.{number_of}
use Rattle.om_text.specs.Words.{words_of}
use Rattle.om_text.specs.declared.error.LineError.{LineError}
use Rattle.om_scripts.specs.Programs.{no_programs, program_line}
use Rattle.om_image.specs.declared.error.ImageError.{ImageError}
use Rattle.om_image.specs.declared.error.ImageError.TheVariants as errors

-- the bytes, and fewer than four zeros behind them
abbrev pub IsPadded : List ℕ → List ℕ → Type 0
IsPadded bytes padded = (zeros : ℕ) × (zeros < 4) × (padded ≡ bytes ++ replicate zeros 0)

-- the first word of the line of a program that may use these instructions
abbrev pub keyword : Ext → List ℕ
keyword I = codes "program"
keyword Im = codes "program-m"

-- the text is one line, whose words are those of the keyword, the name and the size, and words of the machine; read as the line
-- of a program, behind nothing else, it gives this one program, of this size, whose memory begins with the bytes, padded with
-- zeros to a whole number of words
pub record IsImageLine (ext : Ext) (name size bytes text : List ℕ) : Type 0 where
  pub words : List (List ℕ)
  pub is_line : map words_of (lines text) ≡ (keyword ext ∷ name ∷ size ∷ words) ∷ []
  pub program : Program
  pub read : program_line ext no_programs (name ∷ size ∷ words) ≡ Ok (record no_programs { programs = (name, program) ∷ [] })
  pub is_size : number_of size ≡ Some program.size
  pub is_ext : program.ext ≡ ext
  pub is_image : IsPadded bytes program.image

-- the line of the words that have these bytes, the lowest of each first and the last word padded, is refused for this
abbrev pub IsRefused : Ext → List ℕ → List ℕ → List ℕ → LineError → Type 0
IsRefused ext name size bytes error = (words : List ℕ) × IsPadded bytes (flat_map (to_le_bytes w32) words)
    × (program_line ext no_programs (name ∷ size ∷ map word_text words) ≡ Err error)

-- the bytes begin as a linked program does, an ELF file
abbrev pub IsElf : List ℕ → Type 0
IsElf bytes = take 4 bytes ≡ 127 ∷ codes "ELF"

-- at most so many bytes are read: one more than a memory may have
abbrev pub most_read : ℕ
most_read = MAX_MEMORY + 1

-- the error is that of the name, the size and the bytes that are read; those of the reader, the writer and memory may come whatever these are
abbrev pub IsErrorOf : Ext → List ℕ → List ℕ → List ℕ → ImageError → Type 0
IsErrorOf ext name size bytes (errors.Line error) = IsRefused ext name size (take most_read bytes) error
IsErrorOf ext name size bytes errors.Elf = IsElf (take most_read bytes)
IsErrorOf ext name size bytes _ = Unit {0}

-- no error but a writer's leaves anything written
abbrev pub IsSilent : ImageError → Type 0 → Type 0
IsSilent error kept = error ≢ errors.CannotWrite → kept
