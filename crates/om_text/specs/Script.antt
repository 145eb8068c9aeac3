-- What a script means, over any meaning of a line.
use Rattle.std.specs.Prelude.{◌≡◌, ℕ, not, List, ◌∷◌, ◌++◌, filter, fold, Result, Ok, Err}
use Rattle.std.specs.List.{enumerate_from}
use Rattle.std.specs.Result.{result_map_both}
use Rattle.om_text.specs.declared.error.LineError.{LineError}
use Rattle.om_text.specs.declared.error.ScriptError.{ScriptError}
use Rattle.om_text.specs.Reading.{◌>>=◌}
use Rattle.om_text.specs.Words.{is_passed_over}

-- what a line means: what a state and the words of a line give, the next state or an error
abbrev pub Meaning : Type 0 → Type 0
Meaning State = State → List (List ℕ) → Result State LineError

-- the lines that are not passed over, each with its number; the first of all lines has this one
abbrev pub numbered : ℕ → List (List (List ℕ)) → List (ℕ × List (List ℕ))
numbered number lines = filter (λ line. not (is_passed_over line.1)) (enumerate_from number lines)

-- what a line with its number gives; its error becomes one of the script, at this number
abbrev pub at_line : {State : Type 0} → Meaning State → State → ℕ × List (List ℕ) → Result State ScriptError
at_line meaning state line = result_map_both (λ next. next) (λ error. record { line = line.0; error = error }) (meaning state line.1)

-- the state after the lines, each with its number; the first error ends them
abbrev pub script_from : {State : Type 0} → Meaning State → State → List (ℕ × List (List ℕ)) → Result State ScriptError
script_from meaning state lines = fold (λ read line. read >>= λ reached. at_line meaning reached line) (Ok state) lines

-- of the lines, each with its number, those before are all read, and the line whose number is told means the error that is told,
-- at the state that they give
pub record IsFirstFaulty {State : Type 0} (meaning : Meaning State) (state : State)
    (lines : List (ℕ × List (List ℕ))) (error : ScriptError) : Type 0 where
  pub before : List (ℕ × List (List ℕ))
  pub words : List (List ℕ)
  pub after : List (ℕ × List (List ℕ))
  pub reached : State
  pub parts : lines ≡ before ++ (error.line, words) ∷ after
  pub all_read : script_from meaning state before ≡ Ok reached
  pub is_faulty : meaning reached words ≡ Err error.error
