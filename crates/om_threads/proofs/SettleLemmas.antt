-- How the inboxes of a cluster are settled.
use Rattle.std.proofs.Common.{◌≡◌, ◌≢◌, ◌⊎◌, inl, inr, ℕ, ◌+◌, ◌<◌, List, Some, refl, sym, ap, ◌∙◌, subst, arith, get_or, length, set}
use Rattle.std.specs.Prelude.{Vec, slice_get}
use Rattle.std.specs.declared.alloc.Global.{Global}
use Rattle.std.proofs.lemmas.Bool.{cases_eq}
use Rattle.std.proofs.lemmas.List.FromFn.{get_or-enumerate_from, length-enumerate_from}
use Rattle.std.proofs.lemmas.Option.{get_or_from_slice_get, same_Some, slice_get_cases, slice_get_read, slice_get_within}
use Rattle.std.specs.List.{enumerate_from}
use mathlib.Core.List.{IsPrefix}
use Rattle.om_links.proofs.WireLemmas.{same_line}
use Rattle.om_report.proofs.HarvestLemmas.{set_apart, set_here}
use Rattle.om_board.specs.Inboxes.{Line, Traffic, Takings}
use Rattle.om_links.specs.Network.{Lines}
use Rattle.om_threads.specs.steps.Settling.{ArePasses, AreSettled, HavePairs, IsRowSettled, StandsAt, with_put}

-- ---- elements of rows
stands_same : {A : Type 0} (rows : List (Vec A Global)) (i j : ℕ) (x y : A) → StandsAt rows i j x → StandsAt rows i j y → x ≡ y
stands_same rows i j x y p q =
    let row : p.0 ≡ q.0 = same_Some p.0 q.0 (sym p.1 ∙ q.1) in
    same_Some x y (sym p.2 ∙ subst (λ (r : Vec _ Global). slice_get r.items j ≡ Some y) (sym row) q.2)

-- the element that was set
stands_set : {A : Type 0} (rows : List (Vec A Global)) (i j : ℕ) (d new : Vec A Global) (x : A) → i < length rows
    → j < length (get_or rows i d).items → new.items ≡ set (get_or rows i d).items j x → StandsAt (set rows i new) i j x
stands_set rows i j d new x within inside is =
    (new, set_here rows i new within, subst (λ l. slice_get l j ≡ Some x) (sym is) (set_here (get_or rows i d).items j x inside))

-- another row, or another element of the row
stands_apart : {A : Type 0} (rows : List (Vec A Global)) (i j : ℕ) (d new : Vec A Global) (x : A) (p q : ℕ) (y : A)
    → new.items ≡ set (get_or rows i d).items j x → StandsAt rows p q y → (p ≢ i) ⊎ (q ≢ j) → StandsAt (set rows i new) p q y
stands_apart rows i j d new x p q y is at (inl apart) = (at.0, set_apart rows i p new apart ∙ at.1, at.2)
stands_apart rows i j d new x p q y is at (inr apart) = elim (cases_eq p i) [
  | inl here ↦
      let at_row : slice_get rows i ≡ Some at.0 = subst (λ k. slice_get rows k ≡ Some at.0) here at.1 in
      let row : get_or rows i d ≡ at.0 = get_or_from_slice_get rows i at.0 d at_row in
      let kept : slice_get (get_or rows i d).items q ≡ Some y = subst (λ (r : Vec _ Global). slice_get r.items q ≡ Some y) (sym row) at.2 in (
        new,
        subst (λ k. slice_get (set rows i new) k ≡ Some new) (sym here) (set_here rows i new (slice_get_within rows i at.0 at_row)),
        subst (λ l. slice_get l q ≡ Some y) (sym is) (set_apart (get_or rows i d).items j q x apart ∙ kept),
      )
  | inr other ↦ (at.0, set_apart rows i p new other ∙ at.1, at.2)
]

-- the last of so many and one more, or one of those before
last_or_before : (k i : ℕ) → i < k + 1 → (i ≡ k) ⊎ (i < k)
last_or_before k i lt = elim (cases_eq i k) [ inl same ↦ inl same | inr apart ↦ inr (omega arith) ]

-- ---- turns of a loop
-- the turn of a loop over a list with numbers
pub turn_at : {X : Type 0} (xs : List X) (k i : ℕ) (x : X) → (k < length (enumerate_from 0 xs)) × ((i, x) ≡ get_or (enumerate_from 0 xs) k (i, x))
    → (i ≡ k) × (slice_get xs i ≡ Some x)
turn_at {X = X} xs k i x turn =
    let lt : k < length xs = subst (λ n. k < n) (length-enumerate_from 0 xs) turn.0 in
    let number : i ≡ 0 + k = ap (λ (p : ℕ × X). p.0) (turn.1 ∙ get_or-enumerate_from 0 xs k (i, x) lt) in
    let item : x ≡ get_or xs k x = ap (λ (p : ℕ × X). p.1) (turn.1 ∙ get_or-enumerate_from 0 xs k (i, x) lt) in
    let here : i ≡ k = omega (arith, number) in
    (here, subst (λ j. slice_get xs j ≡ Some x) (sym here) (slice_get_read xs (length xs) k x refl lt item))

-- what was read is what stands there
pub line_read : (row : List Line) (i : ℕ) (read line : Line) → slice_get row i ≡ Some line → read ≡ get_or row i read → read ≡ line
line_read row i read line at is = is ∙ get_or_from_slice_get row i line read at

pub taken_read : (rows : List (Vec Takings Global)) (i j : ℕ) (row : Vec Takings Global) (read taken : Takings) → StandsAt rows i j taken
    → row ≡ get_or rows i row → read ≡ get_or row.items j read → read ≡ taken
taken_read rows i j row read taken at row_is is =
    let same : row ≡ at.0 = row_is ∙ get_or_from_slice_get rows i at.0 row at.1 in
    is ∙ ap (λ (r : Vec Takings Global). get_or r.items j read) same ∙ get_or_from_slice_get at.0.items j taken read at.2

pub row_inside : (rows : List (Vec Takings Global)) (i j : ℕ) (taken : Takings) → StandsAt rows i j taken → i < length rows
row_inside rows i j taken at = slice_get_within rows i at.0 at.1

pub taken_inside : (rows : List (Vec Takings Global)) (i j : ℕ) (row : Vec Takings Global) (taken : Takings) → StandsAt rows i j taken
    → row ≡ get_or rows i row → j < length row.items
taken_inside rows i j row taken at row_is =
    subst (λ (r : Vec Takings Global). j < length r.items) (sym (row_is ∙ get_or_from_slice_get rows i at.0 row at.1)) (slice_get_within at.0.items j taken at.2)

-- ---- one sender
-- the next of its passes to put, and the receiver's to take
pub pair_next : (done from : ℕ) (row : List Line) (puts : List Traffic) (old now : List (Vec Takings Global)) (put : Traffic)
    → HavePairs row from puts old → IsRowSettled done from puts old now → slice_get puts done ≡ Some put
    → (slice_get row done ≡ Some put.line) × ((taken : Takings) × StandsAt now done from taken × (taken.line ≡ put.line))
pair_next done from row puts old now put have is at =
    let pair = have done put at in
    (pair.0, (pair.1.0, is.later done pair.1.0 (omega arith) pair.1.1, pair.1.2))

pub row_goes_on : (done from : ℕ) (puts : List Traffic) (old now new : List (Vec Takings Global)) (d row : Vec Takings Global) (put : Traffic) (taken after : Takings)
    → IsRowSettled done from puts old now → slice_get puts done ≡ Some put → StandsAt now done from taken
    → after ≡ with_put taken put → IsPrefix taken.messages put.messages
    → row.items ≡ set (get_or now done d).items from after → new ≡ set now done row
    → IsRowSettled (done + 1) from puts old new
row_goes_on done from puts old now new d row put taken after was put_at taken_at after_is begins row_is new_is = record {
  known = λ to p t lt at stands. elim (last_or_before done to lt) [
    | inl here ↦
        let same_put : p ≡ put = put_of to p here at in
        let same_taken : t ≡ taken = taken_of to t here stands in
        let is : after ≡ with_put t p = after_is ∙ ap (λ x. with_put x put) (sym same_taken) ∙ ap (with_put t) (sym same_put) in
        subst (λ i. StandsAt new i from (with_put t p)) (sym here) (subst (StandsAt new done from) is settled)
    | inr before ↦ kept to from (with_put t p) (was.known to p t before at stands) (inl (omega arith))
  ];
  begun = λ to p t lt at stands. elim (last_or_before done to lt) [
    | inl here ↦
        let same_put : p ≡ put = put_of to p here at in
        let same_taken : t ≡ taken = taken_of to t here stands in
        subst (λ (x : Takings). IsPrefix x.messages p.messages) (sym same_taken) (subst (λ (x : Traffic). IsPrefix taken.messages x.messages) (sym same_put) begins)
    | inr before ↦ was.begun to p t before at stands
  ];
  later = λ to t le stands. kept to from t (was.later to t (omega arith) stands) (inl (omega arith));
  others = λ by to t ne stands. kept to by t (was.others by to t ne stands) (inr ne);
}
  where
    put_of : (to : ℕ) (p : Traffic) → to ≡ done → slice_get puts to ≡ Some p → p ≡ put
    put_of to p here at = same_Some p put (sym at ∙ ap (λ i. slice_get puts i) here ∙ put_at)

    taken_of : (to : ℕ) (t : Takings) → to ≡ done → StandsAt old to from t → t ≡ taken
    taken_of to t here stands =
        stands_same now done from t taken (was.later done t (omega arith) (subst (λ i. StandsAt old i from t) here stands)) taken_at

    settled : StandsAt new done from after
    settled =
        let row_was : get_or now done d ≡ taken_at.0 = get_or_from_slice_get now done taken_at.0 d taken_at.1 in
        let inside : from < length (get_or now done d).items = subst (λ (r : Vec Takings Global). from < length r.items) (sym row_was) (slice_get_within taken_at.0.items from taken taken_at.2) in
        subst (λ l. StandsAt l done from after) (sym new_is) (stands_set now done from d row after (slice_get_within now done taken_at.0 taken_at.1) inside row_is)

    kept : (to by : ℕ) (t : Takings) → StandsAt now to by t → (to ≢ done) ⊎ (by ≢ from) → StandsAt new to by t
    kept to by t at apart = subst (λ l. StandsAt l to by t) (sym new_is) (stands_apart now done from d row after to by t row_is at apart)

-- ---- all senders
-- the next sender's passes to put, and all receivers' to take
pub pairs_next : (n : ℕ) (lines : Lines) (puts : List (Vec Traffic Global)) (old now : List (Vec Takings Global)) (from : ℕ) (row : Vec Traffic Global) (inboxes : Vec Line Global)
    → ArePasses n lines puts old → AreSettled from puts old now → slice_get puts from ≡ Some row → slice_get lines from ≡ Some inboxes
    → HavePairs inboxes.items from row.items now
pairs_next n lines puts old now from row inboxes passes was row_at inboxes_at to put at =
    let inbox = passes.putting from row row_at to put at in
    let same : inbox.0 ≡ inboxes = same_Some inbox.0 inboxes (sym inbox.1 ∙ inboxes_at) in
    let to_in : to < n = subst (λ k. to < k) (passes.put from row row_at) (slice_get_within row.items to put at) in
    let from_in : from < n = subst (λ k. from < k) passes.senders (slice_get_within puts from row row_at) in (
      subst (λ (r : Vec Line Global). slice_get r.items to ≡ Some put.line) same inbox.2,
      elim (slice_get_cases old to).1 [
        | inl own ↦
            let long = passes.take to own.0 own.2 in
            elim (slice_get_cases own.0.items from).1 [
              | inl taken ↦ (
                taken.0,
                was.later from to taken.0 (omega arith) (own.0, own.2, taken.2),
                same_line lines from to taken.0.line put.line (passes.taking to own.0 own.2 from taken.0 taken.2) inbox,
              )
              | inr past ↦ let l = past.0 in absurd (omega arith)
            ]
        | inr past ↦ let l = past.0 in let r = passes.receivers in absurd (omega arith)
      ],
    )

pub all_go_on : (done : ℕ) (puts : List (Vec Traffic Global)) (row : Vec Traffic Global) (old now new : List (Vec Takings Global))
    → AreSettled done puts old now → slice_get puts done ≡ Some row → IsRowSettled (length row.items) done row.items now new
    → AreSettled (done + 1) puts old new
all_go_on done puts row old now new was row_at step = record {
  known = λ from to put taken lt at stands. elim (last_or_before done from lt) [
    | inl here ↦
        let there : slice_get row.items to ≡ Some put = put_there from to put here at in
        subst (λ i. StandsAt new to i (with_put taken put)) (sym here) (step.known to put taken (slice_get_within row.items to put there) there (taken_there from to taken here stands))
    | inr before ↦ step.others from to (with_put taken put) (omega arith) (was.known from to put taken before at stands)
  ];
  begun = λ from to put taken lt at stands. elim (last_or_before done from lt) [
    | inl here ↦
        let there : slice_get row.items to ≡ Some put = put_there from to put here at in
        step.begun to put taken (slice_get_within row.items to put there) there (taken_there from to taken here stands)
    | inr before ↦ was.begun from to put taken before at stands
  ];
  later = λ from to taken le stands. step.others from to taken (omega arith) (was.later from to taken (omega arith) stands);
}
  where
    put_there : (from to : ℕ) (put : Traffic) → from ≡ done → StandsAt puts from to put → slice_get row.items to ≡ Some put
    put_there from to put here at =
        let same : at.0 ≡ row = same_Some at.0 row (sym at.1 ∙ ap (λ i. slice_get puts i) here ∙ row_at) in
        subst (λ (r : Vec Traffic Global). slice_get r.items to ≡ Some put) same at.2

    taken_there : (from to : ℕ) (taken : Takings) → from ≡ done → StandsAt old to from taken → StandsAt now to done taken
    taken_there from to taken here stands = was.later done to taken (omega arith) (subst (λ i. StandsAt old to i taken) here stands)
