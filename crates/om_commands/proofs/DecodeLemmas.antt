use Rattle.std.proofs.Common.{◌≡◌, ℕ, ◌+◌, ◌<◌, List, [], ◌∷◌, ◌++◌, refl, sym, ◌∙◌, ap, subst, append_assoc, add-one, drop-cons, length, get_or, drop}
use Rattle.om_isa.specs.declared.ext.Ext.{Ext}
use Rattle.om_commands.specs.Decode.{IsListing, IsTextOf}

-- what is left at a place is the word there and the rest
drop-place : (words : List ℕ) (i : ℕ) → i < length words → drop i words ≡ get_or words i 0 ∷ drop (i + 1) words
drop-place words i within = rw add-one (drop-cons words i 0 within)

-- a line of the text, and what follows it
line_and_rest : (before line rest : List ℕ) → (before ++ line ++ 10 ∷ []) ++ rest ≡ before ++ (line ++ 10 ∷ rest)
line_and_rest before line rest = simp append_assoc

-- where the text so far completes the lines of the words to come, it does with a line more
pub lines_more : (ext : Ext) (words : List ℕ) (i : ℕ) (before line longer : List ℕ)
    → i < length words → IsTextOf ext (get_or words i 0) line → longer ≡ before ++ line ++ 10 ∷ []
    → ((rest : List ℕ) → IsListing ext (drop i words) rest → IsListing ext words (before ++ rest))
    → (rest : List ℕ) → IsListing ext (drop (i + 1) words) rest → IsListing ext words (longer ++ rest)
lines_more ext words i before line longer within text longer_is told rest lines =
    let here : IsListing ext (drop i words) (line ++ 10 ∷ rest) =
    subst (λ ws. IsListing ext ws (line ++ 10 ∷ rest)) (sym (drop-place words i within)) (line, rest, text, lines, refl) in
    subst (IsListing ext words) (sym (ap (λ t. t ++ rest) longer_is ∙ line_and_rest before line rest)) (told (line ++ 10 ∷ rest) here)
