-- Marks of the pages of a memory.
use Rattle.std.proofs.Common.{◌≡◌, ℕ, zero, suc, ◌+◌, ◌-◌, ◌*◌, ◌/◌, ◌%◌, ◌<◌, ◌≤◌, Bool, true, false, ltb, List, [], ◌∷◌, ◌++◌, length, drop, replicate, get_or, set, refl, sym, ap, ◌∙◌, arith, inl, inr}
use Rattle.std.specs.Prelude.{nat_eq, ◌||◌}
use Rattle.std.proofs.lemmas.Bool.{cases_lt, lt-ltb, eqb-true, eqb-false, false≢true}
use Rattle.std.proofs.lemmas.List.{get_or-set_other, get_or-set_same, get_or_past, get_or-replicate, get_or-append_right, get_or-take, get_or-drop, length-set, length-take, length-replicate}
use Rattle.std.proofs.lemmas.List.FromFn.{get_or-map-range_with_len, length-map-range_with_len}
use Rattle.om_pages.specs.declared.pages.TheConstants.{PAGE}
use Rattle.om_pages.specs.Pages.{page_count, page_at, is_kept}
use Rattle.om_pages.specs.Marks.{AreZerosOutside, Marks, kept_marks}

-- bytes that are all zero
none_at : (bytes : List ℕ) (j : ℕ) → is_kept bytes ≡ false → get_or bytes j 0 ≡ 0
none_at [] j h = get_or_past {X = ℕ} [] j 0 (omega arith)
none_at (zero ∷ bytes) zero h = refl
none_at (zero ∷ bytes) (suc j) h = none_at bytes j h
none_at (suc b ∷ bytes) j h = (let some : ltb 0 (suc b) ≡ true = lt-ltb _ _ (omega arith) in absurd (false≢true (sym h ∙ ap (λ (x : Bool). x || is_kept bytes) some)))

all_zeros : (bytes : List ℕ) → ((j : ℕ) → j < length bytes → get_or bytes j 0 ≡ 0) → is_kept bytes ≡ false
all_zeros [] h = refl
all_zeros (b ∷ bytes) h =
    let first : b ≡ 0 = h 0 (omega arith) in
    rw first (all_zeros bytes (λ j within. h (suc j) (omega arith)))

zero_in : (n i : ℕ) → get_or (replicate {A = ℕ} n 0) i 0 ≡ 0
zero_in n i =
    elim (cases_lt i n) [
      | inl lt ↦ get_or-replicate n i 0 0 lt
      | inr le ↦ get_or_past (replicate {A = ℕ} n 0) i 0 (omega (arith, length-replicate {A = ℕ} n 0))
    ]

-- a byte of a page
byte_of : (memory : List ℕ) (i j : ℕ) → j < PAGE → get_or (page_at memory i).bytes j 0 ≡ get_or memory (i * PAGE + j) 0
byte_of memory i j small = get_or-take PAGE (drop (i * PAGE) memory) j 0 small ∙ get_or-drop (i * PAGE) memory j 0

-- a page that has no mark
pub unmarked_page : (marks : List Bool) (memory : List ℕ) (i : ℕ) → AreZerosOutside marks memory → get_or marks i false ≡ false → is_kept (page_at memory i).bytes ≡ false
unmarked_page marks memory i zeros none =
    all_zeros (page_at memory i).bytes (λ j within.
    let small : j < PAGE = omega (arith, length-take PAGE (drop (i * PAGE) memory)) in
    let at : (i * PAGE + j) / PAGE ≡ i = omega arith in
    byte_of memory i j small ∙ zeros (i * PAGE + j) (ap (λ (n : ℕ). get_or marks n false) at ∙ none))

-- the marks of a memory
pub kept_marks_length : (memory : List ℕ) → length (kept_marks memory) ≡ page_count (length memory)
kept_marks_length memory = length-map-range_with_len (λ index. is_kept (page_at memory index).bytes) 0 (page_count (length memory))

pub zeros_outside_kept : (memory : List ℕ) → AreZerosOutside (kept_marks memory) memory
zeros_outside_kept memory k none =
    elim (cases_lt k (length memory)) [
      | inl lt ↦ (
          let within : k / PAGE < page_count (length memory) = omega arith in
          let marked : get_or (kept_marks memory) (k / PAGE) false ≡ is_kept (page_at memory (k / PAGE)).bytes =
          get_or-map-range_with_len (λ index. is_kept (page_at memory index).bytes) 0 (page_count (length memory)) (k / PAGE) (k / PAGE) false within (omega arith) in
          let at : k / PAGE * PAGE + k % PAGE ≡ k = omega arith in
          ap (λ (n : ℕ). get_or memory n 0) (sym at) ∙ sym (byte_of memory (k / PAGE) (k % PAGE) (omega arith))
          ∙ none_at (page_at memory (k / PAGE)).bytes (k % PAGE) (sym marked ∙ none))
      | inr le ↦ get_or_past memory k 0 le
    ]

-- the marks of the pages of a memory's first bytes
pub zeros_outside_front : (image : List ℕ) (n size : ℕ) (marks : List Bool) → Marks (replicate (page_count size) false) marks 0 (page_count (length image)) → AreZerosOutside marks (image ++ replicate n 0)
zeros_outside_front image n size marks is k none =
    elim (cases_lt (k / PAGE) (page_count (length image))) [
      | inl lt ↦ absurd (false≢true (sym none ∙ is.within (k / PAGE) (omega arith) lt))
      | inr le ↦ get_or-append_right image (replicate n 0) (length image) k 0 refl (omega arith) ∙ zero_in n (k - length image)
    ]

-- pages are marked one after another
pub marks_none : (old : List Bool) (first : ℕ) → Marks old old first first
marks_none old first = record {
  pages = refl;
  below = λ i below. refl;
  within = λ i from to. absurd (omega arith);
  behind = λ i behind. refl;
}

within_more : (old marks : List Bool) (first page : ℕ) → Marks old marks first page → page < length marks → (i : ℕ) → first ≤ i → i < page + 1 → (same : Bool) → nat_eq i page ≡ same → get_or (set marks page true) i false ≡ true
within_more old marks first page is inside i from to true test =
    let same : i ≡ page = eqb-true i page test in
    rw same (get_or-set_same marks page true false inside)
within_more old marks first page is inside i from to false test =
    let other : i ≡ page → ⊥ = eqb-false i page test in
    get_or-set_other marks page i true false other ∙ is.within i from (omega arith)

pub marks_more : (old marks : List Bool) (first page : ℕ) → Marks old marks first page → first ≤ page → page < length marks → Marks old (set marks page true) first (page + 1)
marks_more old marks first page is ordered inside = record {
  pages = length-set marks page true ∙ is.pages;
  below = λ i below. get_or-set_other marks page i true false (omega arith) ∙ is.below i below;
  within = λ i from to. within_more old marks first page is inside i from to (nat_eq i page) refl;
  behind = λ i behind. get_or-set_other marks page i true false (omega arith) ∙ is.behind i (omega arith);
}

-- what had a mark has one, and what has none had none
pub mark_stays : (old new : List Bool) (first last i : ℕ) → Marks old new first last → get_or new i false ≡ false → get_or old i false ≡ false
mark_stays old new first last i is none =
    elim (cases_lt i first) [
      | inl lt ↦ sym (is.below i lt) ∙ none
      | inr from ↦ elim (cases_lt i last) [
        | inl lt ↦ absurd (false≢true (sym none ∙ is.within i from lt))
        | inr le ↦ sym (is.behind i le) ∙ none
      ]
    ]

pub marked_stays : (old new : List Bool) (first last i : ℕ) → Marks old new first last → get_or old i false ≡ true → get_or new i false ≡ true
marked_stays old new first last i is marked =
    elim (cases_lt i first) [
      | inl lt ↦ is.below i lt ∙ marked
      | inr from ↦ elim (cases_lt i last) [
        | inl lt ↦ is.within i from lt
        | inr le ↦ is.behind i le ∙ marked
      ]
    ]
