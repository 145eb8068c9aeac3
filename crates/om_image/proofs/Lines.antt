-- What the words of a line are, of words that are written behind spaces.
use Rattle.std.proofs.Common.{◌≡◌, ℕ, suc, ◌<◌, Bool, false, cond, not, List, [], ◌∷◌, ◌++◌, length, All, refl, ap, ◌∙◌, arith, slice_index, slice_index_or}
use Rattle.std.specs.Prelude.{filter, ◌==◌}
use Rattle.std.specs.List.{slice_split}
use Rattle.std.specs.Str.Lines.{lines, lines_of_parts, strip_carriage_return}
use Rattle.std.proofs.lemmas.Bool.Decides.{nat_tests}
use Rattle.std.proofs.lemmas.List.Elements.{All-append, All-cons, All-nil}
use Rattle.std.proofs.lemmas.List.Splits.{slice_split_at, slice_split_none}
use Rattle.om_text.specs.Words.{is_blank, words_of}
use Rattle.om_image.specs.steps.Lines.{spaced}

-- a word without blanks
pub record IsPlain (word : List ℕ) : Type 0 where
  pub some : 0 < length word
  pub above : All (λ c. 32 < c) word

not_blank : (c : ℕ) → 32 < c → is_blank c ≡ false
not_blank c above = grind (arith, nat_tests)

no_blanks : (word : List ℕ) → All (λ c. 32 < c) word → All (λ c. is_blank c ≡ false) word
no_blanks word above k d within = not_blank (slice_index_or word k d) (above k d within)

split_words : (first : List ℕ) (words : List (List ℕ)) → IsPlain first → All IsPlain words → slice_split is_blank (first ++ spaced words) ≡ first ∷ words
split_words first [] plain all = ap (slice_split is_blank) (append_nothing first) ∙ slice_split_none is_blank first (no_blanks first plain.above)
  where
    append_nothing : (xs : List ℕ) → xs ++ [] ≡ xs
    append_nothing [] = refl
    append_nothing (x ∷ xs) = ap (λ l. x ∷ l) (append_nothing xs)
split_words first (word ∷ words) plain all =
    slice_split_at is_blank first 32 (word ++ spaced words) (no_blanks first plain.above) refl
    ∙ ap (λ parts. first ∷ parts) (split_words word words (all 0 word (omega arith)) (λ k d within. all (suc k) d (omega (arith, within))))

all_kept : (words : List (List ℕ)) → All IsPlain words → filter (λ word. not (length word == 0)) words ≡ words
all_kept [] all = refl
all_kept ([] ∷ words) all = let plain = all 0 [] (omega arith) in absurd (omega (arith, plain.some))
all_kept ((c ∷ word) ∷ words) all =
    let some : (length (c ∷ word) == 0) ≡ false = grind (arith, nat_tests) in
    let rest : List (List ℕ) = filter (λ word. not (length word == 0)) words in
    ap (λ (t : Bool). cond (not t) ((c ∷ word) ∷ rest) rest) some
    ∙ ap (λ l. (c ∷ word) ∷ l) (all_kept words (λ k d within. all (suc k) d (omega (arith, within))))

-- the words, written behind spaces, are the words of the line
pub words_of_line : (first : List ℕ) (words : List (List ℕ)) → IsPlain first → All IsPlain words → words_of (first ++ spaced words) ≡ first ∷ words
words_of_line first words plain all =
    ap (filter (λ word. not (length word == 0))) (split_words first words plain all)
    ∙ all_kept (first ∷ words) (All-cons IsPlain first words plain all)

-- the bytes of such a line
line_above : (words : List (List ℕ)) → All IsPlain words → All (λ c. 31 < c) (spaced words)
line_above [] all = All-nil (λ c. 31 < c)
line_above (word ∷ words) all =
    let plain : IsPlain word = all 0 word (omega arith) in
    All-append (λ c. 31 < c) (32 ∷ word) (spaced words) (All-cons (λ c. 31 < c) 32 word (omega arith) (λ k d within. omega (arith, plain.above k d within)))
    (line_above words (λ k d within. all (suc k) d (omega (arith, within))))

pub all_above : (first : List ℕ) (words : List (List ℕ)) → IsPlain first → All IsPlain words → All (λ c. 31 < c) (first ++ spaced words)
all_above first words plain all = All-append (λ c. 31 < c) first (spaced words) (λ k d within. omega (arith, plain.above k d within)) (line_above words all)

no_feed : (line : List ℕ) → All (λ c. 31 < c) line → All (λ c. (c == 10) ≡ false) line
no_feed line above k d within = apart (slice_index_or line k d) (above k d within)
  where
    apart : (c : ℕ) → 31 < c → (c == 10) ≡ false
    apart c more = grind (arith, nat_tests)

no_return : (line : List ℕ) → All (λ c. 31 < c) line → strip_carriage_return line ≡ line
no_return [] above = refl
no_return (c ∷ line) above = go (slice_index (c ∷ line) (length line)) (above (length line) 0 (omega arith))
  where
    go : (last : ℕ) → 31 < last → strip_carriage_return (c ∷ line) ≡ c ∷ line
    go last more = grind (arith, nat_tests)

-- a line with its end is one line
pub one_line : (line : List ℕ) → All (λ c. 31 < c) line → lines (line ++ 10 ∷ []) ≡ line ∷ []
one_line line above =
    ap lines_of_parts (slice_split_at (λ b. b == 10) line 10 [] (no_feed line above) refl)
    ∙ ap (λ l. l ∷ []) (no_return line above)
