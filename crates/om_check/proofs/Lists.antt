-- Lists, their heads and their lasts.
use Rattle.std.proofs.Common.{◌≡◌, ◌⊎◌, inl, inr, List, [], ◌∷◌, ◌++◌, refl, sym, ap, ◌∙◌}

pub head_is : {A : Type 0} (x y : A) (xs ys : List A) → x ∷ xs ≡ y ∷ ys → x ≡ y
head_is x y xs ys same = cc

pub tail_is : {A : Type 0} (x y : A) (xs ys : List A) → x ∷ xs ≡ y ∷ ys → xs ≡ ys
tail_is x y xs ys same = cc

-- a list is empty, or has a last
pub last_of : {A : Type 0} (xs : List A) → (xs ≡ []) ⊎ ((ys : List A) × (y : A) × (xs ≡ ys ++ y ∷ []))
last_of {A = A} [] = inl refl
last_of {A = A} (x ∷ xs) = more (last_of xs)
  where
    more : (xs ≡ []) ⊎ ((ys : List A) × (y : A) × (xs ≡ ys ++ y ∷ [])) → (x ∷ xs ≡ []) ⊎ ((ys : List A) × (y : A) × (x ∷ xs ≡ ys ++ y ∷ []))
    more (inl none) = inr ([], x, ap (λ us. x ∷ us) none)
    more (inr some) = inr (x ∷ some.0, some.1, ap (λ us. x ∷ us) some.2)

pub not_none : {A : Type 0} (xs : List A) (x : A) (ys : List A) → [] ≡ xs ++ x ∷ ys → ⊥
not_none [] x ys same = cc
not_none (y ∷ xs) x ys same = cc

-- two lists with a last, that are the same
pub snoc_same : {A : Type 0} (xs ys : List A) (x y : A) → xs ++ x ∷ [] ≡ ys ++ y ∷ [] → (xs ≡ ys) × (x ≡ y)
snoc_same [] [] x y same = (refl, head_is x y [] [] same)
snoc_same [] (v ∷ ys) x y same = absurd (not_none ys y [] (tail_is x v [] (ys ++ y ∷ []) same))
snoc_same (u ∷ xs) [] x y same = absurd (not_none xs x [] (sym (tail_is u y (xs ++ x ∷ []) [] same)))
snoc_same (u ∷ xs) (v ∷ ys) x y same =
    let rest = snoc_same xs ys x y (tail_is u v (xs ++ x ∷ []) (ys ++ y ∷ []) same) in
    let one : u ≡ v = head_is u v (xs ++ x ∷ []) (ys ++ y ∷ []) same in
    (ap (λ z. z ∷ xs) one ∙ ap (λ zs. v ∷ zs) rest.0, rest.1)
