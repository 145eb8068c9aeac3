-- Readings of words, one word further.
use Rattle.std.proofs.Common.{◌≡◌, ℕ, Bool, true, false, ◌&&◌, List, ◌∷◌, Option, None, Some, is_some, Ok, Err, refl}
use Rattle.std.specs.Prelude.{filter_map, if◌then◌else◌}
use Rattle.std.specs.List.{cons_option, list_all}
use Rattle.std.specs.Option.{ok_or}
use Rattle.om_text.specs.Reading.{◌>>=◌, all_read}

-- the first word, and then the others
pub all_read_cons : {A F : Type 0} (read : List ℕ → Option A) (error : F) (word : List ℕ) (words : List (List ℕ))
    → all_read read error (word ∷ words) ≡ (ok_or (read word) error >>= λ x. all_read read error words >>= λ xs. Ok (x ∷ xs))
all_read_cons {A} {F} read error word words = by (read word) (list_all (λ word. is_some (read word)) words) (filter_map read words)
  where
    by : (first : Option A) (rest : Bool) (xs : List A)
        → (if is_some first && rest then Ok (cons_option first xs) else Err error)
        ≡ (ok_or first error >>= λ x. (if rest then Ok xs else Err error) >>= λ xs. Ok (x ∷ xs))
    by None rest xs = refl
    by (Some x) true xs = refl
    by (Some x) false xs = refl
