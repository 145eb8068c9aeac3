-- Texts that grow line by line.
use Rattle.std.proofs.Common.{◌≡◌, ℕ, ◌+◌, ◌-◌, ◌≤◌, List, [], ◌∷◌, ◌++◌, map, Result, Ok, Err, OnOk, sym, ap, ◌∙◌, append_assoc, arith}
use Rattle.std.specs.List.{flat_map, range_with_len}
use Rattle.std.proofs.lemmas.List.Folds.{flat_map-map}
use Rattle.std.proofs.lemmas.List.{append-nil}
use Rattle.std.proofs.lemmas.Grind.{flat_map-append}
use Rattle.std.proofs.lemmas.List.FromFn.{map-range_with_len_more}

-- the texts of one number more
texts_more : (f : ℕ → List ℕ) (a n j : ℕ) → a + n ≡ j → flat_map f (range_with_len a (n + 1)) ≡ flat_map f (range_with_len a n) ++ f j
texts_more f a n j is =
    sym (flat_map-map f (λ i. i) (range_with_len a (n + 1)))
    ∙ ap (flat_map f) (map-range_with_len_more (λ i. i) a n j is)
    ∙ flat_map-append f (map (λ i. i) (range_with_len a n)) (j ∷ [])
    ∙ ap (λ t. t ++ flat_map f (j ∷ [])) (flat_map-map f (λ i. i) (range_with_len a n))
    ∙ ap (λ t. flat_map f (range_with_len a n) ++ t) (append-nil (f j))

-- the text so far with the next piece is the text of one piece more
pub lines_grow : (f : ℕ → List ℕ) (a j : ℕ) (start before after : List ℕ) → a ≤ j → before ≡ start ++ flat_map f (range_with_len a (j - a)) → after ≡ before ++ f j
    → after ≡ start ++ flat_map f (range_with_len a ((j + 1) - a))
lines_grow f a j start before after from so_far next =
    let one : (j + 1) - a ≡ (j - a) + 1 = omega (arith, from) in
    next ∙ ap (λ t. t ++ f j) so_far ∙ append_assoc start (flat_map f (range_with_len a (j - a))) (f j)
    ∙ ap (λ t. start ++ t) (sym (texts_more f a (j - a) j (omega (arith, from))))
    ∙ ap (λ n. start ++ flat_map f (range_with_len a n)) (sym one)

-- a text, a text and one more behind a colon
pub told_doing : {A : Type 0} {E : Type 0} (r : Result A E) (old a b new text more : List ℕ) → a ≡ old ++ 58 ∷ 32 ∷ [] → b ≡ a ++ text → OnOk r (new ≡ b ++ more)
    → OnOk r (new ≡ old ++ 58 ∷ 32 ∷ (text ++ more))
told_doing (Ok done) old a b new text more first second third =
    third ∙ ap (λ t. t ++ more) (second ∙ ap (λ t. t ++ text) first) ∙ append_assoc (old ++ 58 ∷ 32 ∷ []) text more
    ∙ append_assoc old (58 ∷ 32 ∷ []) (text ++ more)
told_doing (Err fault) old a b new text more first second third = third
