-- Elements that are changed one after another.
use Rattle.std.proofs.Common.{◌≡◌, ℕ, zero, suc, ◌+◌, ◌<◌, ◌≤◌, List, [], ◌∷◌, length, map, set, get_or, refl, ap, ◌∙◌, arith}

-- the first so many are changed, and the others as they were
abbrev pub first_by : {A : Type 0} → (A → A) → ℕ → List A → List A
first_by f zero xs = xs
first_by f (suc p) [] = []
first_by f (suc p) (x ∷ xs) = f x ∷ first_by f p xs

pub by_next : {A : Type 0} (f : A → A) (p : ℕ) (xs : List A) (x : A) → p < length xs → x ≡ get_or (first_by f p xs) p x → set (first_by f p xs) p (f x) ≡ first_by f (p + 1) xs
by_next f p [] x lt is = absurd (omega arith)
by_next f zero (y ∷ xs) x lt is = ap (λ z. f z ∷ xs) is
by_next f (suc p) (y ∷ xs) x lt is = ap (λ l. f y ∷ l) (by_next f p xs x (omega arith) is) ∙ ap (λ k. first_by f k (y ∷ xs)) (next p)
  where
    next : (p : ℕ) → suc (p + 1) ≡ suc p + 1
    next p = omega arith

pub by_long : {A : Type 0} (f : A → A) (p : ℕ) (xs : List A) → length (first_by f p xs) ≡ length xs
by_long f zero xs = refl
by_long f (suc p) [] = refl
by_long f (suc p) (x ∷ xs) = ap suc (by_long f p xs)

pub by_all : {A : Type 0} (f : A → A) (p : ℕ) (xs : List A) → length xs ≤ p → first_by f p xs ≡ map f xs
by_all f zero [] le = refl
by_all f zero (x ∷ xs) le = absurd (omega arith)
by_all f (suc p) [] le = refl
by_all f (suc p) (x ∷ xs) le = ap (λ l. f x ∷ l) (by_all f p xs (omega arith))
