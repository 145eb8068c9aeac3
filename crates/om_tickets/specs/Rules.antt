-- The rule of a book of tickets, and what its steps tell.
use Rattle.std.specs.Prelude.{ℕ, ◌≡◌, ◌==◌, true, List, [], ◌∷◌, ◌++◌, length, MatchBool}
use Rattle.logbook.specs.Pages.{Cell, Step, View, Book, Named}

-- the first word is the number of tickets. A book has two words, of which this one leaves the second at 0
abbrev pub IsKept : {T : Type 0} → List Cell → List T → Type 0
IsKept cells log = cells ≡ (length log, true) ∷ (0, true) ∷ []

abbrev pub head_of : Book → Named
head_of b = record { tracked = true; key = 0; book = b }

-- the ticket was issued behind all that had been seen; or others were, and were seen
abbrev pub Adds : {T : Type 0} → Step T → View T ℕ → ℕ → View T ℕ → Type 0
Adds s v found w = MatchBool (found == s.old) (w.0 ≡ v.0 ++ s.ask ∷ []) (length w.0 ≡ found)
