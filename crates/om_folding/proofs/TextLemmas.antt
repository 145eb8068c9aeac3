use Rattle.std.proofs.Common.{◌≡◌, ℕ, ◌+◌, List, [], ◌∷◌, ◌++◌, sym, ◌∙◌, ap, map, arith}
use Rattle.std.specs.List.{flat_map, range_with_len}
use Rattle.std.proofs.lemmas.List.FromFn.{map-range_with_len_more}
use Rattle.std.proofs.lemmas.List.Folds.{flat_map-map}
use Rattle.std.proofs.lemmas.List.{append-nil}
use Rattle.std.proofs.lemmas.Grind.{flat_map-append}

-- the texts of one number more
pub texts_more : (f : ℕ → List ℕ) (n : ℕ) → flat_map f (range_with_len 0 (n + 1)) ≡ flat_map f (range_with_len 0 n) ++ f n
texts_more f n =
    sym (flat_map-map f (λ i. i) (range_with_len 0 (n + 1)))
    ∙ ap (flat_map f) (map-range_with_len_more (λ i. i) 0 n n (omega arith))
    ∙ flat_map-append f (map (λ i. i) (range_with_len 0 n)) (n ∷ [])
    ∙ ap (λ t. t ++ flat_map f (n ∷ [])) (flat_map-map f (λ i. i) (range_with_len 0 n))
    ∙ ap (λ t. flat_map f (range_with_len 0 n) ++ t) (append-nil (f n))
