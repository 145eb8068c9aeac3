-- Lists of texts, and of what is told of them.
use Rattle.std.proofs.Common.{◌≡◌, ◌≢◌, inl, inr, ℕ, ◌+◌, ◌<◌, Bool, true, false, cond, List, [], ◌∷◌, ◌++◌, length, map, get_or, refl, sym, ap, subst, ◌∙◌, arith}
use Rattle.std.specs.Prelude.{All, AllPairs, count_by}
use Rattle.std.specs.List.{IsAmong}
use Rattle.std.specs.Str.{bytes_eq}
use Rattle.std.proofs.Math.ListN.{set}
use Rattle.std.proofs.Math.Seq.{get_or-append_seam, map-set_same}
use Rattle.std.proofs.lemmas.List.{length-map, map-append, length-append, length-set, get_or-map, get_or-set_same, get_or-set_other, get_or_append_left}
use Rattle.std.proofs.lemmas.Bool.Decides.{eqb_tells, leb_tells}
use Rattle.std.proofs.lemmas.List.Sums.{sum_by-cons, sum_by_push}
use Rattle.std.proofs.lemmas.List.Elements.{All-head, All-tail, All-push, All-weaker}
use Rattle.std.proofs.lemmas.List.Quantifiers.{all_pairs_push}
use Rattle.std.proofs.lemmas.Slice.Eq.{bytes_eq-Decides}

-- ---- equal texts
pub same_texts : (xs ys : List ℕ) → bytes_eq xs ys ≡ true → xs ≡ ys
same_texts xs ys is = (bytes_eq-Decides xs ys).0 is

pub texts_same : (xs ys : List ℕ) → xs ≡ ys → bytes_eq xs ys ≡ true
texts_same xs ys is = (bytes_eq-Decides xs ys).1 is

false_or_true : (b : Bool) → (b ≡ true → ⊥) → b ≡ false
false_or_true true not = absurd (not refl)
false_or_true false not = refl

pub texts_differ : (xs ys : List ℕ) → xs ≢ ys → bytes_eq xs ys ≡ false
texts_differ xs ys not = false_or_true (bytes_eq xs ys) (λ is. not (same_texts xs ys is))

-- ---- one of a list
pub among_push : {X : Type 0} (xs : List X) (x y : X) → IsAmong xs x → IsAmong (xs ++ y ∷ []) x
among_push xs x y (i, (low, is)) =
    let longer : i < length (xs ++ y ∷ []) = omega (arith, length-append xs (y ∷ [])) in
    (i, (longer, is ∙ sym (get_or_append_left xs (y ∷ []) x i low)))

pub among_last : {X : Type 0} (xs : List X) (y : X) → IsAmong (xs ++ y ∷ []) y
among_last xs y =
    let longer : length xs < length (xs ++ y ∷ []) = omega (arith, length-append xs (y ∷ [])) in
    (length xs, (longer, sym (get_or-append_seam xs y [] y)))

-- ---- how many pass
abbrev one_if : Bool → ℕ
one_if b = cond b 1 0

pub none_pass : {X : Type 0} (p : X → Bool) (xs : List X) → All (λ x. p x ≡ false) xs → count_by p xs ≡ 0
none_pass p [] all = refl
none_pass p (x ∷ xs) all =
    sum_by-cons (λ y. one_if (p y)) x xs
    ∙ (let first : one_if (p x) ≡ 0 = ap one_if (All-head (λ y. p y ≡ false) x xs all) in
    let rest = none_pass p xs (All-tail (λ y. p y ≡ false) x xs all) in
    omega (arith, first, rest))

module _ {X : Type 0} (text : X → List ℕ) (runs : X → ℕ) where
  abbrev IsCounted : List (List ℕ) → X → Type 0
  IsCounted texts f = runs f ≡ count_by (bytes_eq (text f)) texts

  count_more : (f : X) (texts : List (List ℕ)) (t : List ℕ) → count_by (bytes_eq (text f)) (texts ++ t ∷ []) ≡ count_by (bytes_eq (text f)) texts + one_if (bytes_eq (text f) t)
  count_more f texts t = sum_by_push (λ other. one_if (bytes_eq (text f) other)) texts t

  still_counted : (f : X) (texts : List (List ℕ)) (t : List ℕ) → text f ≢ t → IsCounted texts f → IsCounted (texts ++ t ∷ []) f
  still_counted f texts t other counted =
      let more = count_more f texts t in
      let none : one_if (bytes_eq (text f) t) ≡ 0 = ap one_if (texts_differ (text f) t other) in
      omega (arith, more, none, counted)

  -- ---- a text that is new
  pub once_new : (found : List X) (f : X) → All (λ other. other ≢ text f) (map text found)
      → AllPairs (λ one other. one ≢ other) (map text found) → AllPairs (λ one other. one ≢ other) (map text (found ++ f ∷ []))
  once_new found f new once =
      subst (AllPairs (λ one other. one ≢ other)) (sym (map-append text found (f ∷ [])))
      (all_pairs_push (λ one other. one ≢ other) (map text found) (text f) once new)

  none_of : (found : List X) (texts : List (List ℕ)) (t : List ℕ) → All (λ other. other ≢ t) (map text found) → All (IsAmong (map text found)) texts
      → All (λ other. bytes_eq t other ≡ false) texts
  none_of found texts t new told k d low =
      let other = get_or texts k d in
      let is : IsAmong (map text found) other = told k d low in
      texts_differ t other (λ same. new is.0 other is.1.0 (sym is.1.1 ∙ sym same))

  pub counted_new : (found : List X) (texts : List (List ℕ)) (f : X) → runs f ≡ 1 → All (λ other. other ≢ text f) (map text found)
      → All (IsAmong (map text found)) texts → All (IsCounted texts) found → All (IsCounted (texts ++ text f ∷ [])) (found ++ f ∷ [])
  counted_new found texts f one new told counted =
      All-push (IsCounted (texts ++ text f ∷ [])) found f
      (λ k d low.
      still_counted (get_or found k d) texts (text f)
      (λ same. new k (text d) (subst (λ n. k < n) (sym (length-map found text)) low) (get_or-map text found k d (text d) low ∙ same))
      (counted k d low))
      (let more = count_more f texts (text f) in
      let this : one_if (bytes_eq (text f) (text f)) ≡ 1 = ap one_if (texts_same (text f) (text f) refl) in
      let none = none_pass (bytes_eq (text f)) texts (none_of found texts (text f) new told) in
      omega (arith, more, this, none, one))

  pub told_new : (found : List X) (texts : List (List ℕ)) (f : X) → All (IsAmong (map text found)) texts
      → All (IsAmong (map text (found ++ f ∷ []))) (texts ++ text f ∷ [])
  told_new found texts f told =
      subst (λ names. All (IsAmong names) (texts ++ text f ∷ [])) (sym (map-append text found (f ∷ [])))
      (All-push (IsAmong (map text found ++ text f ∷ [])) texts (text f)
      (All-weaker (IsAmong (map text found)) (IsAmong (map text found ++ text f ∷ [])) (λ t among. among_push (map text found) t (text f) among) texts told)
      (among_last (map text found) (text f)))

  -- ---- a text that came before
  pub names_again : (found : List X) (k : ℕ) (f d : X) → text f ≡ text (get_or found k d) → map text (set found k f) ≡ map text found
  names_again found k f d same = map-set_same text found k f d same

  others_differ : (found : List X) (k j : ℕ) (d e : X) → k < length found → j < length found → AllPairs (λ one other. one ≢ other) (map text found)
      → j ≢ k → text (get_or found j e) ≢ text (get_or found k d)
  others_differ found k j d e low low_j once not same =
      let t = text d in
      let at_k = get_or-map text found k d t low in
      let at_j = get_or-map text found j e t low_j in
      let within_k : k < length (map text found) = subst (λ n. k < n) (sym (length-map found text)) low in
      let within_j : j < length (map text found) = subst (λ n. j < n) (sym (length-map found text)) low_j in
      elim (leb_tells j k) [
        | inl less ↦ once j k t (omega (arith, less.1)) within_k (at_j ∙ same ∙ sym at_k)
        | inr more ↦ once k j t (omega (arith, more.1)) within_j (at_k ∙ sym same ∙ sym at_j)
      ]

  pub counted_again : (found : List X) (texts : List (List ℕ)) (k : ℕ) (f d : X) → k < length found → text f ≡ text (get_or found k d)
      → runs f ≡ runs (get_or found k d) + 1
      → AllPairs (λ one other. one ≢ other) (map text found) → All (IsCounted texts) found → All (IsCounted (texts ++ text f ∷ [])) (set found k f)
  counted_again found texts k f d low same more once counted j e under = elim (eqb_tells j k) [
    | inl is ↦
        let here : get_or (set found k f) k e ≡ f = get_or-set_same found k f e low in
        let at : get_or (set found k f) j e ≡ f = ap (λ i. get_or (set found k f) i e) is.1 ∙ here in
        subst (IsCounted (texts ++ text f ∷ [])) (sym at)
        (let added = count_more f texts (text f) in
        let this : one_if (bytes_eq (text f) (text f)) ≡ 1 = ap one_if (texts_same (text f) (text f) refl) in
        let before : runs (get_or found k d) ≡ count_by (bytes_eq (text f)) texts = counted k d low ∙ ap (λ t. count_by (bytes_eq t) texts) (sym same) in
        omega (arith, added, this, before, more))
    | inr not ↦
        let low_j : j < length found = subst (λ n. j < n) (length-set found k f) under in
        let at : get_or (set found k f) j e ≡ get_or found j e = get_or-set_other found k j f e not.1 in
        subst (IsCounted (texts ++ text f ∷ [])) (sym at)
        (still_counted (get_or found j e) texts (text f) (λ is. others_differ found k j d e low low_j once not.1 (is ∙ same)) (counted j e low_j))
  ]

  pub told_again : (found : List X) (texts : List (List ℕ)) (k : ℕ) (f d : X) → k < length found → text f ≡ text (get_or found k d)
      → All (IsAmong (map text found)) texts → All (IsAmong (map text (set found k f))) (texts ++ text f ∷ [])
  told_again found texts k f d low same told =
      subst (λ names. All (IsAmong names) (texts ++ text f ∷ [])) (sym (names_again found k f d same))
      (All-push (IsAmong (map text found)) texts (text f) told
      (k, (subst (λ n. k < n) (sym (length-map found text)) low, same ∙ sym (get_or-map text found k d (text f) low))))
