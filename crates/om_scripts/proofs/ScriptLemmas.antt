use Rattle.std.proofs.Common.{◌≡◌, ℕ, List, [], ◌∷◌, ◌++◌, Result, Ok, Err, refl, sym, ap, append_assoc}
use Rattle.om_text.specs.Reading.{◌>>=◌}
use Rattle.om_text.specs.declared.error.LineError.{LineError}

-- these numbers, and then those that are read
abbrev pub and_then : List ℕ → Result (List ℕ) LineError → Result (List ℕ) LineError
and_then numbers (Err error) = Err error
and_then numbers (Ok more) = Ok (numbers ++ more)

-- one number more
pub and_then-push : (numbers : List ℕ) (number : ℕ) (more : Result (List ℕ) LineError)
    → and_then numbers (more >>= λ read. Ok (number ∷ read)) ≡ and_then (numbers ++ number ∷ []) more
and_then-push numbers number (Err error) = refl
and_then-push numbers number (Ok more) = ap Ok (sym (append_assoc numbers (number ∷ []) more))
