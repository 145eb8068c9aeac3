-- Records put one after another.
use Rattle.std.proofs.Common.{◌≡◌, ℕ, ◌+◌, ◌<◌, List, [], ◌∷◌, ◌++◌, length, map, take, drop, get_or, Vec, sym, ap, ap₂, ◌∙◌, ◌≤◌, ◌-◌, arith}
use Rattle.std.specs.declared.alloc.Global.{Global}
use Rattle.std.proofs.lemmas.List.{at_drop_more, drop-drop, length-drop, length-map, length-take-le, map-append, take-append-drop}
use Rattle.std.specs.FinMap.{insert}
use Rattle.om_stable.specs.Content.{Records, with_all, bytes_of}

pub at_start : (m : Records) (first : ℕ) (rs : List (Vec ℕ Global)) → with_all m (first + 0) (map (λ (r : Vec ℕ Global). r.items) (drop 0 rs)) ≡ with_all m first (map (λ (r : Vec ℕ Global). r.items) rs)
at_start m first rs = let e : first + 0 ≡ first = omega arith in ap (λ n. with_all m n (map (λ (r : Vec ℕ Global). r.items) rs)) e

pub one_more : (m : Records) (first i : ℕ) (rs : List (Vec ℕ Global)) (r : Vec ℕ Global) → (i < length rs) × (r ≡ get_or rs i r)
    → with_all (insert m (first + i) r.items) (first + (i + 1)) (map (λ (r : Vec ℕ Global). r.items) (drop (i + 1) rs)) ≡ with_all m (first + i) (map (λ (r : Vec ℕ Global). r.items) (drop i rs))
one_more m first i rs r h =
    let F = λ (l : List (Vec ℕ Global)). with_all m (first + i) (map (λ (r : Vec ℕ Global). r.items) l) in
    let e : first + (i + 1) ≡ (first + i) + 1 = omega arith in
    ap (λ n. with_all (insert m (first + i) r.items) n (map (λ (r : Vec ℕ Global). r.items) (drop (i + 1) rs))) e
    ∙ sym (at_drop_more F rs i r h.0 ∙ ap (λ x. F (x ∷ drop (i + 1) rs)) (sym h.1))

with_all-append : (m : Records) (first : ℕ) (xs ys : List (List ℕ)) → with_all m first (xs ++ ys) ≡ with_all (with_all m first xs) (first + length xs) ys
with_all-append m first [] ys = let e : first ≡ first + 0 = omega arith in ap (λ n. with_all m n ys) e
with_all-append m first (x ∷ xs) ys =
    let e : first + 1 + length xs ≡ first + length (x ∷ xs) = omega arith in
    with_all-append (insert m first x) (first + 1) xs ys ∙ ap (λ n. with_all (with_all (insert m first x) (first + 1) xs) n ys) e

-- the next few at once, up to a place
pub some_more : (m : Records) (first at end : ℕ) (rs : List (Vec ℕ Global)) → at ≤ end → end ≤ length rs
    → with_all (with_all m (first + at) (bytes_of (take (end - at) (drop at rs)))) (first + end) (bytes_of (drop end rs)) ≡ with_all m (first + at) (bytes_of (drop at rs))
some_more m first at end rs above within =
    let n = end - at in
    let few = take n (drop at rs) in
    let after : at + n ≡ end = omega arith in
    let rest : drop n (drop at rs) ≡ drop end rs = drop-drop n at rs ∙ ap (λ k. drop k rs) after in
    let room : length (drop at rs) ≡ length rs - at = length-drop at rs in
    let fits : n ≤ length (drop at rs) = omega arith in
    let count : length (bytes_of few) ≡ n = length-map few (λ (r : Vec ℕ Global). r.items) ∙ length-take-le n (drop at rs) fits in
    let place : first + at + length (bytes_of few) ≡ first + end = omega arith in
    let all : drop at rs ≡ few ++ drop end rs = sym (take-append-drop n (drop at rs)) ∙ ap (λ l. few ++ l) rest in
    sym (ap (λ l. with_all m (first + at) (bytes_of l)) all
    ∙ ap (with_all m (first + at)) (map-append (λ (r : Vec ℕ Global). r.items) few (drop end rs))
    ∙ with_all-append m (first + at) (bytes_of few) (bytes_of (drop end rs))
    ∙ ap (λ k. with_all (with_all m (first + at) (bytes_of few)) k (bytes_of (drop end rs))) place)

-- four receipts, by their places
pub four_of : (rs : List (Vec ℕ Global)) (a b c d : Vec ℕ Global) → 4 ≤ length rs → length rs < 5 → a ≡ get_or rs 0 a → b ≡ get_or rs 1 b → c ≡ get_or rs 2 c → d ≡ get_or rs 3 d
    → a.items ∷ b.items ∷ c.items ∷ d.items ∷ [] ≡ bytes_of rs
four_of [] a b c d least most p q r s = absurd (omega arith)
four_of (x ∷ []) a b c d least most p q r s = absurd (omega arith)
four_of (x ∷ y ∷ []) a b c d least most p q r s = absurd (omega arith)
four_of (x ∷ y ∷ z ∷ []) a b c d least most p q r s = absurd (omega arith)
four_of (x ∷ y ∷ z ∷ w ∷ []) a b c d least most p q r s =
    ap₂ (λ (u v : Vec ℕ Global). u.items ∷ v.items ∷ c.items ∷ d.items ∷ []) p q ∙ ap₂ (λ (u v : Vec ℕ Global). x.items ∷ y.items ∷ u.items ∷ v.items ∷ []) r s
four_of (x ∷ y ∷ z ∷ w ∷ v ∷ more) a b c d least most p q r s = absurd (omega arith)
