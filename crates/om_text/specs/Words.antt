-- The words of a line.
use Rattle.std.specs.Prelude.{ℕ, Bool, true, not, ◌||◌, List, [], ◌∷◌, length, filter, slice_index, ◌==◌}
use Rattle.std.specs.List.{slice_split}

-- a space or a tab: what parts words, and nothing else does
abbrev pub is_blank : ℕ → Bool
is_blank byte = (byte == 32) || (byte == 9)

-- the words of a line: the longest runs of bytes that are not blank, in order
abbrev pub words_of : List ℕ → List (List ℕ)
words_of line = filter (λ word. not (length word == 0)) (slice_split is_blank line)

-- a line without words, or whose first word begins with `#`
abbrev pub is_passed_over : List (List ℕ) → Bool
is_passed_over [] = true
is_passed_over (first ∷ words) = slice_index first 0 == 35
