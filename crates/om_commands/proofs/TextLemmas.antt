use Rattle.std.proofs.Common.{◌≡◌, ℕ, ◌+◌, List, [], ◌∷◌, ◌++◌, sym, ◌∙◌, ap, append_assoc, map, arith}
use Rattle.std.specs.List.{flat_map, range_with_len}
use Rattle.std.proofs.lemmas.List.FromFn.{map-range_with_len_more}
use Rattle.std.proofs.lemmas.List.Folds.{flat_map-map}
use Rattle.std.proofs.lemmas.List.{append-nil}
use Rattle.std.proofs.lemmas.Grind.{flat_map-append}

-- the texts of one number more
texts_more : (f : ℕ → List ℕ) (n : ℕ) → flat_map f (range_with_len 0 (n + 1)) ≡ flat_map f (range_with_len 0 n) ++ f n
texts_more f n =
    sym (flat_map-map f (λ i. i) (range_with_len 0 (n + 1)))
    ∙ ap (flat_map f) (map-range_with_len_more (λ i. i) 0 n n (omega arith))
    ∙ flat_map-append f (map (λ i. i) (range_with_len 0 n)) (n ∷ [])
    ∙ ap (λ t. t ++ flat_map f (n ∷ [])) (flat_map-map f (λ i. i) (range_with_len 0 n))
    ∙ ap (λ t. flat_map f (range_with_len 0 n) ++ t) (append-nil (f n))

-- the text so far with the next piece is the text of one piece more
pub text_grows : (f : ℕ → List ℕ) (n : ℕ) (start before after : List ℕ)
    → before ≡ start ++ flat_map f (range_with_len 0 n) → after ≡ before ++ f n
    → after ≡ start ++ flat_map f (range_with_len 0 (n + 1))
text_grows f n start before after so_far next =
    next ∙ ap (λ t. t ++ f n) so_far ∙ append_assoc start (flat_map f (range_with_len 0 n)) (f n)
    ∙ ap (λ t. start ++ t) (sym (texts_more f n))
