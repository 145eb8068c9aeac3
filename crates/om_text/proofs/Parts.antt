-- Texts and lines as the parts that std's `split` gives.
use Rattle.std.proofs.Common.{◌≡◌, ◌==◌, ℕ, ◌+◌, ◌<◌, ◌≤◌, Bool, true, false, cond, eqb, ltb, List, [], ◌∷◌, length, take, drop, Some, None, refl, ap, ◌∙◌, arith}
use Rattle.std.specs.List.{slice_split, position, position_or_len}
use Rattle.std.proofs.lemmas.Bool.{ltb-true, ltb-false}
use Rattle.std.proofs.lemmas.Bool.Decides.{nat_tests}
use Rattle.std.proofs.lemmas.Option.{cond_some}
use Rattle.std.proofs.lemmas.List.Splits.{slice_split_none, slice_split_first, length-slice_split}
use Rattle.std.proofs.lemmas.List.Sums.{fails_before_first}
use Rattle.std.specs.Str.Lines.{lines, lines_of_parts, strip_carriage_return}

lines_of_parts-cons : (line : List ℕ) (parts : List (List ℕ)) → 0 < length parts → lines_of_parts (line ∷ parts) ≡ strip_carriage_return line ∷ lines_of_parts parts
lines_of_parts-cons line [] h = absurd (omega arith)
lines_of_parts-cons line (next ∷ more) h = refl

-- a text without an LF is one line
pub lines_none : (text : List ℕ) → 0 < length text → position (λ b. eqb b 10) text ≡ None → lines text ≡ text ∷ []
lines_none [] some h = absurd (omega arith)
lines_none (byte ∷ bytes) some h =
    let text = byte ∷ bytes in
    let test : ℕ → Bool = λ b. eqb b 10 in
    let past : length text ≤ position_or_len test text = ltb-false (position_or_len test text) (length text) (none_is (ltb (position_or_len test text) (length text)) (position_or_len test text) h) in
    let filled : (length text == 0) ≡ false = grind (arith, nat_tests) in
    ap lines_of_parts (slice_split_none test text (λ k d lt. fails_before_first test text k d (omega (arith, past, lt))))
    ∙ ap (λ (empty : Bool). cond empty [] (text ∷ [])) filled
  where
    none_is : (b : Bool) (n : ℕ) → cond b (Some n) None ≡ None → b ≡ false
    none_is true n e = cc
    none_is false n e = refl

-- the first line ends at the first LF
pub lines_some : (text : List ℕ) (end : ℕ) → position (λ b. eqb b 10) text ≡ Some end → lines text ≡ strip_carriage_return (take end text) ∷ lines (drop (end + 1) text)
lines_some text end h =
    let test : ℕ → Bool = λ b. eqb b 10 in
    let found = cond_some (ltb (position_or_len test text) (length text)) (position_or_len test text) end h in
    let within : position_or_len test text < length text = ltb-true (position_or_len test text) (length text) found.0 in
    let rest : List (List ℕ) = slice_split test (drop (position_or_len test text + 1) text) in
    let split : slice_split test text ≡ take (position_or_len test text) text ∷ rest = slice_split_first test text 0 within in
    let more : 0 < length rest = omega (arith, length-slice_split test (drop (position_or_len test text + 1) text)) in
    ap lines_of_parts split ∙ lines_of_parts-cons (take (position_or_len test text) text) rest more
    ∙ ap (λ n. strip_carriage_return (take n text) ∷ lines (drop (n + 1) text)) found.1
