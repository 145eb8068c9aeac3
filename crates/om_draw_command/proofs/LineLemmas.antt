-- The numbers of the lines that say something.
use Rattle.std.proofs.Common.{◌≡◌, ◌+◌, ◌-◌, ◌<◌, ◌≤◌, ◌==◌, ℕ, zero, suc, Bool, true, false, if◌then◌else◌, List, [], ◌∷◌, length, map, drop, get_or, arith, subst, sym}
use Rattle.std.specs.Prelude.{slice_index}
use Rattle.std.specs.List.{slice_split}
use Rattle.std.specs.Str.Lines.{lines as lines_in, lines_of_parts}
use Rattle.std.proofs.lemmas.List.{get_or-drop, length-drop, length-map}
use Rattle.std.proofs.lemmas.List.Splits.{length-slice_split}
use Rattle.std.proofs.lemmas.List.Sums.{count_by-le-length}
use Rattle.om_text.specs.Script.{numbered}
use Rattle.om_text.specs.Words.{is_passed_over, words_of}
use Rattle.om_text.proofs.FirstFaulty.{numbers-cons}
use Rattle.om_draw_command.specs.Draw.{event_lines}

abbrev numbers : ℕ → List (List (List ℕ)) → List ℕ
numbers number lines = map (λ line. line.0) (numbered number lines)

-- none is below the first
first_below : (b : Bool) (number : ℕ) (rest : List ℕ) → ((i : ℕ) → i < length rest → number + 1 ≤ get_or rest i 0)
    → (i : ℕ) → i < length (if b then rest else number ∷ rest) → number ≤ get_or (if b then rest else number ∷ rest) i 0
first_below true number rest low i below = let h = low i below in omega arith
first_below false number rest low zero below = omega arith
first_below false number rest low (suc i) below = let h = low i (omega arith) in omega arith

numbers_below : (number : ℕ) (lines : List (List (List ℕ))) (i : ℕ) → i < length (numbers number lines)
    → number ≤ get_or (numbers number lines) i 0
numbers_below number [] i below = absurd (omega arith)
numbers_below number (words ∷ lines) i below =
    subst (λ ns. i < length ns → number ≤ get_or ns i 0) (sym (numbers-cons number words lines))
    (first_below (is_passed_over words) number (numbers (number + 1) lines) (numbers_below (number + 1) lines) i) below

one_rises : (b : Bool) (number : ℕ) (rest : List ℕ) → ((i : ℕ) → i < length rest → number + 1 ≤ get_or rest i 0)
    → ((i j : ℕ) → i < j → j < length rest → get_or rest i 0 < get_or rest j 0)
    → (i j : ℕ) → i < j → j < length (if b then rest else number ∷ rest)
    → get_or (if b then rest else number ∷ rest) i 0 < get_or (if b then rest else number ∷ rest) j 0
one_rises true number rest low rise i j less below = rise i j less below
one_rises false number rest low rise i zero less below = absurd (omega arith)
one_rises false number rest low rise zero (suc j) less below = let h = low j (omega arith) in omega arith
one_rises false number rest low rise (suc i) (suc j) less below = rise i j (omega arith) (omega arith)

numbers_rise : (number : ℕ) (lines : List (List (List ℕ))) (i j : ℕ) → i < j → j < length (numbers number lines)
    → get_or (numbers number lines) i 0 < get_or (numbers number lines) j 0
numbers_rise number [] i j less below = absurd (omega arith)
numbers_rise number (words ∷ lines) i j less below =
    subst (λ ns. j < length ns → get_or ns i 0 < get_or ns j 0) (sym (numbers-cons number words lines))
    (one_rises (is_passed_over words) number (numbers (number + 1) lines) (numbers_below (number + 1) lines)
    (numbers_rise (number + 1) lines) i j less) below

dropped_rise : (xs : List ℕ) (n : ℕ) → ((i j : ℕ) → i < j → j < length xs → get_or xs i 0 < get_or xs j 0)
    → (i j : ℕ) → i < j → j < length (drop n xs) → get_or (drop n xs) i 0 < get_or (drop n xs) j 0
dropped_rise xs n rise i j less below =
    let long = length-drop n xs in
    let at_i : get_or (drop n xs) i 0 ≡ get_or xs (n + i) 0 = get_or-drop n xs i 0 in
    let at_j : get_or (drop n xs) j 0 ≡ get_or xs (n + j) 0 = get_or-drop n xs j 0 in
    let h = rise (n + i) (n + j) (omega arith) (omega arith) in
    omega arith

pub lines_rise : (bytes : List ℕ) (events i j : ℕ) → i < j → j < length (event_lines bytes events)
    → slice_index (event_lines bytes events) i < slice_index (event_lines bytes events) j
lines_rise bytes events i j less below =
    let lines : List ℕ = numbers 1 (map words_of (lines_in bytes)) in
    dropped_rise lines (length lines - events) (numbers_rise 1 (map words_of (lines_in bytes))) i j less below

-- ---- how many they are
one_few : (b : Bool) (number n : ℕ) (rest : List ℕ) → length rest ≤ n → length (if b then rest else number ∷ rest) ≤ suc n
one_few true number n rest few = omega arith
one_few false number n rest few = omega arith

numbers_few : (number : ℕ) (lines : List (List (List ℕ))) → length (numbers number lines) ≤ length lines
numbers_few number [] = omega arith
numbers_few number (words ∷ lines) =
    subst (λ ns. length ns ≤ suc (length lines)) (sym (numbers-cons number words lines))
    (one_few (is_passed_over words) number (length lines) (numbers (number + 1) lines) (numbers_few (number + 1) lines))

last_few : (b : Bool) (line : List ℕ) → length (if b then [] else line ∷ []) ≤ 1
last_few true line = omega arith
last_few false line = omega arith

parts_few : (parts : List (List ℕ)) → length (lines_of_parts parts) ≤ length parts
parts_few [] = omega arith
parts_few (line ∷ []) = last_few (length line == 0) line
parts_few (line ∷ next ∷ more) = let h = parts_few (next ∷ more) in omega arith

-- no more than bytes, and one
pub lines_few : (bytes : List ℕ) (events : ℕ) → length (event_lines bytes events) ≤ length bytes + 1
lines_few bytes events =
    let lines : List ℕ = numbers 1 (map words_of (lines_in bytes)) in
    let all : length lines ≤ length (lines_in bytes) = subst (λ n. length lines ≤ n) (length-map (lines_in bytes) words_of) (numbers_few 1 (map words_of (lines_in bytes))) in
    let some = length-drop (length lines - events) lines in
    let parts = parts_few (slice_split (λ b. b == 10) bytes) in
    let cuts = length-slice_split (λ (b : ℕ). b == 10) bytes in
    let few = count_by-le-length (λ (b : ℕ). b == 10) bytes in
    omega arith
