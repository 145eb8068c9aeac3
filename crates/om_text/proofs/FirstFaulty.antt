-- A script line by line, and its first faulty line.
use Rattle.std.proofs.Common.{◌≡◌, ℕ, ◌+◌, List, [], ◌∷◌, ◌++◌, map, fold, not, Result, Ok, Err, Bool, true, false, cond, if◌then◌else◌, refl, sym, ap, ◌∙◌}
use Rattle.std.specs.Result.{result_map_both}
use Rattle.om_text.specs.declared.error.LineError.{LineError}
use Rattle.om_text.specs.declared.error.ScriptError.{ScriptError}
use Rattle.om_text.specs.Reading.{◌>>=◌}
use Rattle.om_text.specs.Words.{is_passed_over}
use Rattle.om_text.specs.Script.{IsFirstFaulty, at_line, numbered, script_from}

-- the numbers of the lines, one line further
pub numbers-cons : (number : ℕ) (words : List (List ℕ)) (lines : List (List (List ℕ)))
    → map (λ line. line.0) (numbered number (words ∷ lines))
    ≡ (if is_passed_over words then map (λ line. line.0) (numbered (number + 1) lines) else number ∷ map (λ line. line.0) (numbered (number + 1) lines))
numbers-cons number words lines = by (is_passed_over words) (numbered (number + 1) lines)
  where
    by : (passed : Bool) (rest : List (ℕ × List (List ℕ)))
        → map (λ line. line.0) (cond (not passed) ((number, words) ∷ rest) rest)
        ≡ (if passed then map (λ line. line.0) rest else number ∷ map (λ line. line.0) rest)
    by true rest = refl
    by false rest = refl

module _ {State : Type 0} (meaning : State → List (List ℕ) → Result State LineError) where
  abbrev step : Result State ScriptError → ℕ × List (List ℕ) → Result State ScriptError
  step read line = read >>= λ reached. at_line meaning reached line

  error_stays : (error : ScriptError) (lines : List (ℕ × List (List ℕ))) → fold step (Err error) lines ≡ Err error
  error_stays error [] = refl
  error_stays error (line ∷ lines) = error_stays error lines

  from_first : (first : Result State ScriptError) (lines : List (ℕ × List (List ℕ))) → fold step first lines ≡ (first >>= λ next. script_from meaning next lines)
  from_first (Ok state) lines = refl
  from_first (Err error) lines = error_stays error lines

  -- the first line, and then the others
  pub script-cons : (state : State) (line : ℕ × List (List ℕ)) (lines : List (ℕ × List (List ℕ)))
      → script_from meaning state (line ∷ lines) ≡ (at_line meaning state line >>= λ next. script_from meaning next lines)
  script-cons state line lines = from_first (at_line meaning state line) lines

  -- the same of a line that may be passed over
  pub script_line : (number : ℕ) (state : State) (words : List (List ℕ)) (lines : List (List (List ℕ)))
      → script_from meaning state (numbered number (words ∷ lines))
      ≡ ((if is_passed_over words then Ok state else at_line meaning state (number, words)) >>= λ next. script_from meaning next (numbered (number + 1) lines))
  script_line number state words lines = by (is_passed_over words) (numbered (number + 1) lines)
    where
      by : (passed : Bool) (rest : List (ℕ × List (List ℕ)))
          → script_from meaning state (cond (not passed) ((number, words) ∷ rest) rest)
          ≡ ((if passed then Ok state else at_line meaning state (number, words)) >>= λ next. script_from meaning next rest)
      by true rest = refl
      by false rest = script-cons state (number, words) rest

  abbrev told : ℕ → Result State LineError → Result State ScriptError
  told number read = result_map_both (λ next. next) (λ error. record { line = number; error = error }) read

  later_faulty : (state next : State) (line : ℕ × List (List ℕ)) (lines : List (ℕ × List (List ℕ))) (error : ScriptError) → meaning state line.1 ≡ Ok next
      → IsFirstFaulty meaning next lines error → IsFirstFaulty meaning state (line ∷ lines) error
  later_faulty state next line lines error read later = record {
    before = line ∷ later.before;
    words = later.words;
    after = later.after;
    reached = later.reached;
    parts = ap (λ more. line ∷ more) later.parts;
    all_read =
        script-cons state line later.before
        ∙ ap (λ r. told line.0 r >>= λ s. script_from meaning s later.before) read
        ∙ later.all_read;
    is_faulty = later.is_faulty;
  }

  faulty_by_line : (state : State) (line : ℕ × List (List ℕ)) (lines : List (ℕ × List (List ℕ))) (error : ScriptError)
      → ((next : State) → script_from meaning next lines ≡ Err error → IsFirstFaulty meaning next lines error)
      → (next : Result State LineError) → meaning state line.1 ≡ next → (told line.0 next >>= λ s. script_from meaning s lines) ≡ Err error
      → IsFirstFaulty meaning state (line ∷ lines) error
  faulty_by_line state line lines error later (Ok next) is h = later_faulty state next line lines error is (later next h)
  faulty_by_line state line lines error later (Err wrong) is h =
      let here : record { line = line.0; error = wrong } ≡ error = cc in
      record {
        before = [];
        words = line.1;
        after = lines;
        reached = state;
        parts = ap (λ (f : ScriptError). (f.line, line.1) ∷ lines) here;
        all_read = refl;
        is_faulty = is ∙ ap (λ (f : ScriptError). Err f.error) here;
      }

  -- the error of a script is that of its first faulty line
  pub IsFirstFaulty-from_script : (lines : List (ℕ × List (List ℕ))) (state : State) (error : ScriptError) → script_from meaning state lines ≡ Err error → IsFirstFaulty meaning state lines error
  IsFirstFaulty-from_script [] state error h = cc
  IsFirstFaulty-from_script (line ∷ lines) state error h =
      faulty_by_line state line lines error (λ next. IsFirstFaulty-from_script lines next error) (meaning state line.1) refl (sym (script-cons state line lines) ∙ h)

  ends_after : (before rest : List (ℕ × List (List ℕ))) (reached : State) (error : ScriptError) (step : Result State ScriptError)
      → (step >>= λ s. script_from meaning s before) ≡ Ok reached
      → ((next : State) → script_from meaning next before ≡ Ok reached → script_from meaning next rest ≡ Err error)
      → (step >>= λ s. script_from meaning s rest) ≡ Err error
  ends_after before rest reached error (Ok next) h later = later next h
  ends_after before rest reached error (Err e) h later = cc

  ends_at : (before : List (ℕ × List (List ℕ))) (state reached : State) (words : List (List ℕ)) (after : List (ℕ × List (List ℕ))) (error : ScriptError)
      → script_from meaning state before ≡ Ok reached → meaning reached words ≡ Err error.error → script_from meaning state (before ++ (error.line, words) ∷ after) ≡ Err error
  ends_at [] state reached words after error h q =
      let same : state ≡ reached = cc in
      script-cons state (error.line, words) after
      ∙ ap (λ r. told error.line r >>= λ s. script_from meaning s after) (ap (λ s. meaning s words) same ∙ q)
  ends_at (first ∷ before) state reached words after error h q =
      script-cons state first (before ++ (error.line, words) ∷ after)
      ∙ ends_after before (before ++ (error.line, words) ∷ after) reached error (at_line meaning state first)
      (sym (script-cons state first before) ∙ h) (λ next g. ends_at before next reached words after error g q)

  pub script-from_IsFirstFaulty : (lines : List (ℕ × List (List ℕ))) (state : State) (error : ScriptError) → IsFirstFaulty meaning state lines error → script_from meaning state lines ≡ Err error
  script-from_IsFirstFaulty lines state error first =
      ap (script_from meaning state) first.parts ∙ ends_at first.before state first.reached first.words first.after error first.all_read first.is_faulty
