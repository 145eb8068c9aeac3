-- Records whose bytes stand one behind the other.
use Rattle.std.specs.Prelude.{ℕ, ◌+◌, List, [], ◌∷◌, drop, take}

-- how many bytes records of these lengths have
abbrev pub total : List ℕ → ℕ
total [] = 0
total (len ∷ lens) = len + total lens

-- the records of these lengths, as they stand in the bytes
abbrev pub pieces : List ℕ → List ℕ → List (List ℕ)
pieces [] bytes = []
pieces (len ∷ lens) bytes = take len bytes ∷ pieces lens (drop len bytes)
