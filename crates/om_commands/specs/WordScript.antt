-- What the lines of words of the machine mean.
use Rattle.std.specs.Prelude.{ℕ, List, [], ◌∷◌, ◌++◌, Result, Ok, Err}
use Rattle.om_text.specs.Numbers.{hex_word}
use Rattle.std.specs.Option.{ok_or}
use Rattle.om_text.specs.Reading.{◌>>=◌}
use Rattle.om_text.specs.declared.error.LineError.{LineError}
use Rattle.om_text.specs.declared.error.LineError.TheVariants.{WrongCount, BadWord}

-- a line has one word, of eight hexadecimal digits
abbrev pub word_script_line : List ℕ → List (List ℕ) → Result (List ℕ) LineError
word_script_line read (text ∷ []) = do
  word ← ok_or (hex_word text) BadWord
  Ok (read ++ word ∷ [])
word_script_line read _ = Err WrongCount
