-- Quoted text can be read back.
use Rattle.std.proofs.Common.{◌≡◌, ℕ, ◌+◌, ◌-◌, ◌*◌, ◌<◌, ◌==◌, if◌then◌else◌, List, [], ◌∷◌, ◌++◌, refl, sym, ap, ◌∙◌, append_assoc, drop, arith}
use Rattle.std.specs.Prelude.{All}
use Rattle.std.specs.List.{flat_map}
use Rattle.std.proofs.lemmas.List.Elements.{All-head, All-tail}
use Rattle.om_commands.specs.Quoted.{quoted, quoted_byte}

-- ---- the first byte of quoted text that has none of the quotation marks, and what comes behind it
abbrev octal_of : ℕ → List ℕ → ℕ × List ℕ
octal_of high (middle ∷ low ∷ rest) = ((high - 48) * 64 + (middle - 48) * 8 + (low - 48), rest)
octal_of high _ = (0, [])

abbrev escape_of : List ℕ → ℕ × List ℕ
escape_of [] = (0, [])
escape_of (c ∷ rest) =
    if c == 34 then (34, rest)
    else (if c == 92 then (92, rest)
    else (if c == 110 then (10, rest)
    else (if c == 116 then (9, rest)
    else (if c == 114 then (13, rest)
    else octal_of c rest))))

abbrev first_of : List ℕ → ℕ × List ℕ
first_of [] = (0, [])
first_of (c ∷ rest) = if c == 92 then escape_of rest else (c, rest)

first_back : (byte : ℕ) (rest : List ℕ) → byte < 256 → first_of (quoted_byte byte ++ rest) ≡ (byte, rest)
first_back byte rest small = grind arith

-- ---- the bytes of the whole
-- what comes behind the first of two quoted texts is the same, and so is their first byte
same_first : (x y : ℕ) (a b : List ℕ) → x < 256 → y < 256 → quoted_byte x ++ a ≡ quoted_byte y ++ b → (x ≡ y) × (a ≡ b)
same_first x y a b small_x small_y same =
    let pair : (x, a) ≡ (y, b) = sym (first_back x a small_x) ∙ ap first_of same ∙ first_back y b small_y in
    (ap {A = ℕ × List ℕ} (λ p. p.0) pair, ap {A = ℕ × List ℕ} (λ p. p.1) pair)

-- the closing mark is no byte that something comes behind
not_closed : (y : ℕ) (b : List ℕ) → y < 256 → 34 ∷ [] ≡ quoted_byte y ++ b → b ≡ []
not_closed y b small same =
    let pair : (34, []) ≡ (y, b) = ap first_of same ∙ first_back y b small in
    sym (ap {A = ℕ × List ℕ} (λ p. p.1) pair)

not_empty : (a : List ℕ) → a ++ 34 ∷ [] ≡ [] → ⊥
not_empty [] same = cc
not_empty (x ∷ a) same = cc

abbrev rest_of : List ℕ → List ℕ
rest_of bytes = flat_map quoted_byte bytes ++ 34 ∷ []

abbrev IsByte : ℕ → Type 0
IsByte byte = byte < 256

same_rest : (bytes other : List ℕ) → All (λ byte. byte < 256) bytes → All (λ byte. byte < 256) other → rest_of bytes ≡ rest_of other → bytes ≡ other
same_rest [] [] small_a small_b same = refl
same_rest [] (y ∷ ys) small_a small_b same =
    absurd (not_empty (flat_map quoted_byte ys) (not_closed y (rest_of ys) (All-head IsByte y ys small_b) (same ∙ append_assoc (quoted_byte y) (flat_map quoted_byte ys) (34 ∷ []))))
same_rest (x ∷ xs) [] small_a small_b same =
    absurd (not_empty (flat_map quoted_byte xs) (not_closed x (rest_of xs) (All-head IsByte x xs small_a) (sym same ∙ append_assoc (quoted_byte x) (flat_map quoted_byte xs) (34 ∷ []))))
same_rest (x ∷ xs) (y ∷ ys) small_a small_b same =
    let both = same_first x y (rest_of xs) (rest_of ys) (All-head IsByte x xs small_a) (All-head IsByte y ys small_b)
    (sym (append_assoc (quoted_byte x) (flat_map quoted_byte xs) (34 ∷ [])) ∙ same ∙ append_assoc (quoted_byte y) (flat_map quoted_byte ys) (34 ∷ [])) in
    ap (λ b. b ∷ xs) both.0 ∙ ap (λ bs. y ∷ bs) (same_rest xs ys (All-tail IsByte x xs small_a) (All-tail IsByte y ys small_b) both.1)

pub quoted_once : (bytes other : List ℕ) → All (λ byte. byte < 256) bytes → All (λ byte. byte < 256) other → quoted bytes ≡ quoted other → bytes ≡ other
quoted_once bytes other small_a small_b same = same_rest bytes other small_a small_b (ap (drop 1) same)
