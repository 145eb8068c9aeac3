-- The pages of a memory that are kept.
use Rattle.std.proofs.Common.{◌≡◌, ℕ, zero, suc, ◌+◌, ◌-◌, ◌*◌, ◌<◌, ◌≤◌, Bool, true, false, cond, ltb, List, [], ◌∷◌, ◌++◌, length, take, drop, min, replicate, refl, sym, ap, subst, ◌∙◌, append_assoc, arith, drop-drop, inl, inr}
use Rattle.std.specs.Prelude.{map, ◌||◌}
use Rattle.std.specs.List.{filter, range_with_len}
use Rattle.std.proofs.lemmas.Bool.{cases_lt, lt-ltb, false≢true}
use Rattle.std.proofs.lemmas.List.{append-nil, length-append, length-drop, length-take, length-replicate, take-append-drop, take_at, drop_at, take_all, drop_all, take-replicate, drop-replicate, replicate-append-replicate}
use Rattle.om_pages.specs.declared.pages.TheConstants.{PAGE}
use Rattle.om_pages.proofs.KeptPages.{kept_before}
use Rattle.om_pages.specs.Pages.{Page, page_count, page_size, is_kept, kept_pages}

-- ---- by recursion, for pages of any size

-- of the bytes that begin with the page of this index, the kept ones among so many pages
abbrev pub kept_by : ℕ → ℕ → ℕ → List ℕ → List Page
kept_by size low zero bytes = []
kept_by size low (suc count) bytes =
    cond (is_kept (take size bytes)) (record { index = low; bytes = take size bytes } ∷ kept_by size (low + 1) count (drop size bytes)) (kept_by size (low + 1) count (drop size bytes))

abbrev pub kept_from : ℕ → ℕ → List ℕ → List Page
kept_from low count bytes = kept_by PAGE low count bytes

abbrev page_by : ℕ → List ℕ → ℕ → Page
page_by size memory index = record { index = index; bytes = take size (drop (index * size) memory) }

kept_by_is : (size : ℕ) (memory : List ℕ) (low count : ℕ) → filter (λ page. is_kept page.bytes) (map (page_by size memory) (range_with_len low count)) ≡ kept_by size low count (drop (low * size) memory)
kept_by_is size memory low zero = refl
kept_by_is size memory low (suc count) =
    let sum : low * size + size ≡ (low + 1) * size = omega arith in
    let behind : drop size (drop (low * size) memory) ≡ drop ((low + 1) * size) memory = drop-drop size (low * size) memory ∙ ap (λ (n : ℕ). drop n memory) sum in
    rw (behind, kept_by_is size memory (low + 1) count) refl

pub kept_pages_are : (memory : List ℕ) (size : ℕ) → length memory ≡ size → kept_pages memory ≡ kept_from 0 (page_count size) memory
kept_pages_are memory size len = ap (λ (n : ℕ). kept_before memory (page_count n)) len ∙ kept_by_is PAGE memory 0 (page_count size)

-- ---- zeros are not kept

zeros_are_not : (n : ℕ) → is_kept (replicate n 0) ≡ false
zeros_are_not zero = refl
zeros_are_not (suc n) = zeros_are_not n

front_of_zeros : (m n : ℕ) → is_kept (take m (replicate n 0)) ≡ false
front_of_zeros m n =
    elim (cases_lt n m) [
      | inl lt ↦ ap is_kept (take_all m (replicate {A = ℕ} n 0) (omega (arith, length-replicate {A = ℕ} n 0))) ∙ zeros_are_not n
      | inr le ↦ ap is_kept (take-replicate m n 0 le) ∙ zeros_are_not m
    ]

none_by : (size low count n : ℕ) → kept_by size low count (replicate n 0) ≡ []
none_by size low zero n = refl
none_by size low (suc count) n =
    let here = front_of_zeros size n in
    rw (here, drop-replicate {X = ℕ} size n 0) (none_by size (low + 1) count (n - size))

pub none_kept : (low count n : ℕ) → kept_from low count (replicate n 0) ≡ []
none_kept low count n = none_by PAGE low count n

-- a page that is all zero, and one that is not
passed : (size low count : ℕ) (page more : List ℕ) → is_kept page ≡ false → take size (page ++ more) ≡ page → drop size (page ++ more) ≡ more → kept_by size low (suc count) (page ++ more) ≡ kept_by size (low + 1) count more
passed size low count page more kept front behind = rw (front, behind, kept) refl

found : (size low count : ℕ) (page more : List ℕ) → is_kept page ≡ true → take size (page ++ more) ≡ page → drop size (page ++ more) ≡ more → kept_by size low (suc count) (page ++ more) ≡ record { index = low; bytes = page } ∷ kept_by size (low + 1) count more
found size low count page more kept front behind = rw (front, behind, kept) refl

skipped : (size low count k : ℕ) (rest : List ℕ) → k ≤ count → kept_by size low count (replicate (k * size) 0 ++ rest) ≡ kept_by size (low + k) (count - k) rest
skipped size low count zero rest le =
    let same : low + 0 ≡ low = omega arith in
    let all : count - 0 ≡ count = omega arith in
    let none : 0 * size ≡ 0 = omega arith in
    rw (none, same, all) refl
skipped size low zero (suc k) rest le = absurd (omega arith)
skipped size low (suc count) (suc k) rest le =
    let zeros : List ℕ = replicate size 0 in
    let others : List ℕ = replicate (k * size) 0 ++ rest in
    let sum : suc k * size ≡ size + k * size = omega arith in
    let whole : replicate (suc k * size) 0 ++ rest ≡ zeros ++ others = ap (λ (n : ℕ). replicate n 0 ++ rest) sum ∙ ap (λ (xs : List ℕ). xs ++ rest) (sym (replicate-append-replicate size (k * size) 0)) ∙ append_assoc zeros (replicate (k * size) 0) rest in
    let front = take_at zeros others size (length-replicate {A = ℕ} size 0) in
    let behind = drop_at zeros others size (length-replicate {A = ℕ} size 0) in
    let place : low + 1 + k ≡ low + suc k = omega arith in
    let left : suc count - suc k ≡ count - k = omega arith in
    ap (λ (xs : List ℕ). kept_by size low (suc count) xs) whole ∙ passed size low count zeros others (zeros_are_not size) front behind ∙ skipped size (low + 1) count k rest (omega arith) ∙ rw (place, left) refl

none_left : (xs : List ℕ) → length xs ≡ 0 → xs ≡ []
none_left [] len = refl
none_left (x ∷ xs) len = absurd (omega arith)

-- a page is the first of the bytes that begin with it
front_is : (size : ℕ) (page more : List ℕ) → length page ≤ size → (length page < size → length more ≡ 0) → take size (page ++ more) ≡ page
front_is size page more most last =
    elim (cases_lt (length page) size) [
      | inl lt ↦ take_all size (page ++ more) (omega (arith, length-append page more, last lt)) ∙ ap (λ (xs : List ℕ). page ++ xs) (none_left more (last lt)) ∙ append-nil page
      | inr le ↦ take_at page more size (omega arith)
    ]

behind_is : (size : ℕ) (page more : List ℕ) → length page ≤ size → (length page < size → length more ≡ 0) → drop size (page ++ more) ≡ more
behind_is size page more most last =
    elim (cases_lt (length page) size) [
      | inl lt ↦ drop_all size (page ++ more) (omega (arith, length-append page more, last lt)) ∙ sym (none_left more (last lt))
      | inr le ↦ drop_at page more size (omega arith)
    ]

pub kept_after : (size low index : ℕ) (page more : List ℕ) → low ≤ index → index < page_count size → length page ≡ page_size size index → length more ≡ size - (index + 1) * PAGE → is_kept page ≡ true
    → kept_from low (page_count size - low) (replicate ((index - low) * PAGE) 0 ++ (page ++ more)) ≡ record { index = index; bytes = page } ∷ kept_from (index + 1) (page_count size - (index + 1)) more
kept_after size low index page more above below whole left kept =
    let count = page_count size in
    let most : length page ≤ PAGE = omega (arith, whole) in
    let last : length page < PAGE → length more ≡ 0 = (λ lt. omega (arith, whole, left, lt)) in
    let place : low + (index - low) ≡ index = omega arith in
    let some : count - low - (index - low) ≡ suc (count - (index + 1)) = omega arith in
    skipped PAGE low (count - low) (index - low) (page ++ more) (omega arith) ∙ ap (λ (i : ℕ). kept_from i (count - low - (index - low)) (page ++ more)) place ∙ ap (λ (n : ℕ). kept_from index n (page ++ more)) some ∙ found PAGE index (count - (index + 1)) page more kept (front_is PAGE page more most last) (behind_is PAGE page more most last)

-- ---- the kept pages and the length are the memory

-- the pages have this index or a later one
abbrev IsFrom : ℕ → List Page → Type 0
IsFrom low [] = Unit {0}
IsFrom low (page ∷ pages) = low ≤ page.index

later : (low : ℕ) (pages : List Page) → IsFrom (low + 1) pages → IsFrom low pages
later low [] h = tt
later low (page ∷ pages) h = omega arith

kept_is_from : (size low count : ℕ) (bytes : List ℕ) → IsFrom low (kept_by size low count bytes)
kept_is_from size low zero bytes = tt
kept_is_from size low (suc count) bytes = by_test (is_kept (take size bytes)) (kept_is_from size (low + 1) count (drop size bytes))
  where
    by_test : (b : Bool) → IsFrom (low + 1) (kept_by size (low + 1) count (drop size bytes)) → IsFrom low (cond b (record { index = low; bytes = take size bytes } ∷ kept_by size (low + 1) count (drop size bytes)) (kept_by size (low + 1) count (drop size bytes)))
    by_test true more = omega arith
    by_test false more = later low _ more

-- bytes that are all zero
zeros_again : (bytes : List ℕ) → is_kept bytes ≡ false → bytes ≡ replicate (length bytes) 0
zeros_again [] h = refl
zeros_again (zero ∷ bytes) h = ap (λ (xs : List ℕ). 0 ∷ xs) (zeros_again bytes h)
zeros_again (suc b ∷ bytes) h = (let some : ltb 0 (suc b) ≡ true = lt-ltb _ _ (omega arith) in absurd (false≢true (sym h ∙ ap (λ (x : Bool). x || is_kept bytes) some)))

-- the first page, and what is behind it
same_parts : (size : ℕ) (a b : List ℕ) → take size a ≡ take size b → drop size a ≡ drop size b → a ≡ b
same_parts size a b front behind = sym (take-append-drop size a) ∙ ap (λ (xs : List ℕ). xs ++ drop size a) front ∙ ap (λ (xs : List ℕ). take size b ++ xs) behind ∙ take-append-drop size b

same_zeros : (size : ℕ) (a b : List ℕ) → length a ≡ length b → is_kept (take size a) ≡ false → is_kept (take size b) ≡ false → take size a ≡ take size b
same_zeros size a b len none_a none_b =
    let lens : length (take size a) ≡ length (take size b) = length-take size a ∙ ap (λ (n : ℕ). min size n) len ∙ sym (length-take size b) in
    zeros_again (take size a) none_a ∙ ap (λ (n : ℕ). replicate n 0) lens ∙ sym (zeros_again (take size b) none_b)

abbrev first_bytes : List Page → List ℕ
first_bytes [] = []
first_bytes (page ∷ pages) = page.bytes

abbrev others : List Page → List Page
others [] = []
others (page ∷ pages) = pages

same_by : (size low count : ℕ) (a b : List ℕ) → length a ≡ length b → length a ≤ count * size → kept_by size low count a ≡ kept_by size low count b → a ≡ b
same_by size low zero a b len most e = none_left a (omega arith) ∙ sym (none_left b (omega arith))
same_by size low (suc count) a b len most e =
    let sum : suc count * size ≡ size + count * size = omega arith in
    let lens : length (drop size a) ≡ length (drop size b) = omega (arith, length-drop size a, length-drop size b) in
    let left : length (drop size a) ≤ count * size = omega (arith, length-drop size a) in
    by_tests (is_kept (take size a)) (is_kept (take size b)) refl refl (same_by size (low + 1) count (drop size a) (drop size b) lens left) e
  where
    by_tests : (x y : Bool) → is_kept (take size a) ≡ x → is_kept (take size b) ≡ y → (kept_by size (low + 1) count (drop size a) ≡ kept_by size (low + 1) count (drop size b) → drop size a ≡ drop size b)
        → cond x (record { index = low; bytes = take size a } ∷ kept_by size (low + 1) count (drop size a)) (kept_by size (low + 1) count (drop size a)) ≡ cond y (record { index = low; bytes = take size b } ∷ kept_by size (low + 1) count (drop size b)) (kept_by size (low + 1) count (drop size b))
        → a ≡ b
    by_tests true true x y more same =
        same_parts size a b (ap first_bytes same) (more (ap others same))
    by_tests true false x y more same =
        let h : IsFrom (low + 1) (record { index = low; bytes = take size a } ∷ kept_by size (low + 1) count (drop size a)) = subst (IsFrom (low + 1)) (sym same) (kept_is_from size (low + 1) count (drop size b)) in
        absurd (omega (arith, h))
    by_tests false true x y more same =
        let h : IsFrom (low + 1) (record { index = low; bytes = take size b } ∷ kept_by size (low + 1) count (drop size b)) = subst (IsFrom (low + 1)) same (kept_is_from size (low + 1) count (drop size a)) in
        absurd (omega (arith, h))
    by_tests false false x y more same = same_parts size a b (same_zeros size a b len x y) (more same)

pub same_memory : (a b : List ℕ) → length a ≡ length b → kept_pages a ≡ kept_pages b → a ≡ b
same_memory a b len e =
    same_by PAGE 0 (page_count (length a)) a b len (omega arith) (sym (kept_pages_are a (length a) refl) ∙ e ∙ kept_pages_are b (length a) (sym len))
