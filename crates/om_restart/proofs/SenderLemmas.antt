-- The senders of receipts, one after another.
use Rattle.std.proofs.Common.{◌≡◌, ◌≢◌, ℕ, zero, suc, ◌+◌, ◌<◌, ◌≤◌, List, [], ◌∷◌, ◌++◌, length, get_or, take, refl, sym, ap, ◌∙◌, subst, inl, inr, arith, Vec}
use Rattle.std.specs.Prelude.{Option, Some, Contains, slice_get}
use Rattle.std.specs.List.Sorted.{IsNonDecreasingBy, IsPermutation}
use Rattle.std.specs.declared.alloc.Global.{Global}
use Rattle.std.proofs.lemmas.Bool.{cases_lt}
use Rattle.std.proofs.lemmas.Grind.{flat_map-append}
use Rattle.std.proofs.lemmas.List.{append-nil, map_more, length_push}
use Rattle.std.proofs.lemmas.List.Elements.{Contains-push, Contains-push_cases, Contains-append_left}
use Rattle.std.proofs.lemmas.List.Sorted.{Contains-permutation, IsPermutation-sym}
use Rattle.std.proofs.lemmas.Option.{slice_get_within, get_or_from_slice_get, slice_get-get_or}
use Rattle.om_restart.specs.Senders.{AreSendersIn, joined}
use Rattle.om_stable.specs.Content.{rows_of}
use Rattle.om_restart.specs.steps.Receiving.{AreReceivedBy, GoOnBehind, IsFirstChange, IsFrom}
use Rattle.om_process.specs.declared.row.PendingRow.{PendingRow}

-- ---- lists with one element more
slice_get-push_before : {A : Type 0} (xs : List A) (x y : A) (i : ℕ) → i < length xs → slice_get (xs ++ x ∷ []) i ≡ Some y → slice_get xs i ≡ Some y
slice_get-push_before [] x y i lt at = absurd (omega arith)
slice_get-push_before (a ∷ xs) x y zero lt at = at
slice_get-push_before (a ∷ xs) x y (suc i) lt at = slice_get-push_before xs x y i (omega arith) at

slice_get-push_at : {A : Type 0} (xs : List A) (x : A) → slice_get (xs ++ x ∷ []) (length xs) ≡ Some x
slice_get-push_at [] x = refl
slice_get-push_at (a ∷ xs) x = slice_get-push_at xs x

slice_get-push_behind : {A : Type 0} (xs : List A) (x y : A) (i : ℕ) → length xs < i → slice_get (xs ++ x ∷ []) i ≡ Some y → ⊥
slice_get-push_behind [] x y zero lt at = absurd (omega arith)
slice_get-push_behind [] x y (suc i) lt at = cc
slice_get-push_behind (a ∷ xs) x y zero lt at = absurd (omega arith)
slice_get-push_behind (a ∷ xs) x y (suc i) lt at = slice_get-push_behind xs x y i (omega arith) at

take-push : {A : Type 0} (xs : List A) (x : A) (i : ℕ) → i ≤ length xs → take i (xs ++ x ∷ []) ≡ take i xs
take-push [] x zero le = refl
take-push [] x (suc i) le = absurd (omega arith)
take-push (a ∷ xs) x zero le = refl
take-push (a ∷ xs) x (suc i) le = ap (λ l. a ∷ l) (take-push xs x i (omega arith))

take-all : {A : Type 0} (xs : List A) → take (length xs) xs ≡ xs
take-all [] = refl
take-all (a ∷ xs) = ap (λ l. a ∷ l) (take-all xs)

some_same : {A : Type 0} (a b : A) → ◌≡◌ {A = Option A} (Some a) (Some b) → a ≡ b
some_same a b same = cc

-- ---- the rows of a table

joined-push : (rows : List (ℕ × List ℕ)) (row : ℕ × List ℕ) → joined (rows ++ row ∷ []) ≡ joined rows ++ row.1
joined-push rows row = flat_map-append (λ (r : ℕ × List ℕ). r.1) rows (row ∷ []) ∙ ap (λ l. joined rows ++ l) (append-nil row.1)

AreSendersIn-push : (rows : List (ℕ × List ℕ)) (row : ℕ × List ℕ) (senders : List ℕ) → AreSendersIn rows senders → row.0 ≡ length senders
    → AreSendersIn (rows ++ row ∷ []) (senders ++ row.1)
AreSendersIn-push rows row senders are next = record {
  whole = ap (λ l. l ++ row.1) are.whole ∙ sym (joined-push rows row);
  numbered = λ i r at. elim (cases_lt i (length rows)) [
    | inl lt ↦ are.numbered i r (slice_get-push_before rows row r i lt at) ∙ ap (λ l. length (joined l)) (sym (take-push rows row i (omega arith)))
    | inr ge ↦ elim (cases_lt (length rows) i) [
      | inl gt ↦ absurd (slice_get-push_behind rows row r i gt at)
      | inr le ↦
          let here : i ≡ length rows = omega arith in
          let same : row ≡ r = some_same row r (sym (slice_get-push_at rows row) ∙ ap (λ k. slice_get (rows ++ row ∷ []) k) (sym here) ∙ at) in
          let so_far : take i (rows ++ row ∷ []) ≡ rows = take-push rows row i le ∙ ap (λ k. take k rows) here ∙ take-all rows in
          ap (λ (e : ℕ × List ℕ). e.0) (sym same) ∙ next ∙ ap length are.whole ∙ ap (λ l. length (joined l)) (sym so_far)
    ]
  ];
}

abbrev row_of : ℕ × Vec ℕ Global → ℕ × List ℕ
row_of e = (e.0, e.1.items)

-- one row more
pub senders_more : (rows : List (ℕ × Vec ℕ Global)) (i : ℕ) (item : ℕ × Vec ℕ Global) (senders : List ℕ) → i < length rows → item ≡ get_or rows i item
    → AreSendersIn (rows_of (take i rows)) senders → item.0 ≡ length senders → AreSendersIn (rows_of (take (i + 1) rows)) (senders ++ item.1.items)
senders_more rows i item senders within here are next =
    let more : rows_of (take (i + 1) rows) ≡ rows_of (take i rows) ++ row_of item ∷ [] =
    map_more row_of rows i item within ∙ ap (λ e. rows_of (take i rows) ++ row_of e ∷ []) (sym here) in
    subst (λ l. AreSendersIn l (senders ++ item.1.items)) (sym more) (AreSendersIn-push (rows_of (take i rows)) (row_of item) senders are next)

-- ---- the first place at which two lists differ
pub first_change_one : (old new : List ℕ) (p q : ℕ) → IsFirstChange old new p → IsFirstChange old new q → p ≡ q
first_change_one old new p q first other = elim (cases_lt p q) [
  | inl lt ↦ absurd (first.differs (other.same p lt))
  | inr ge ↦ elim (cases_lt q p) [
    | inl gt ↦ absurd (other.differs (first.same q gt))
    | inr le ↦ omega arith
  ]
]

-- ---- senders that go on behind others
-- as far as the first m receipts that are given
pub record GoOnUpTo (m : ℕ) (received : List (ℕ × ℕ)) (first senders : List ℕ) : Type 0 where
  pub within : length first ≤ length senders
  pub begins : take (length first) senders ≡ first
  pub follow : (k q : ℕ) → length first ≤ k → slice_get senders k ≡ Some q → Contains received (k + 1, q)
  pub end : (i : ℕ) (e : ℕ × ℕ) → i < m → slice_get received i ≡ Some e → e.0 ≢ length senders + 1

pub go_on_none : (received : List (ℕ × ℕ)) (first : List ℕ) → GoOnUpTo 0 received first first
go_on_none received first = record {
  within = omega arith;
  begins = take-all first;
  follow = λ k q le at. let lt : k < length first = slice_get_within first k q at in absurd (omega arith);
  end = λ i e lt at. absurd (omega arith);
}

pub go_on_taken : (m : ℕ) (received : List (ℕ × ℕ)) (first senders : List ℕ) (e : ℕ × ℕ) → m < length received → slice_get received m ≡ Some e
    → IsNonDecreasingBy (λ (x : ℕ × ℕ). x.0) received → e.0 ≡ length senders + 1
    → GoOnUpTo m received first senders → GoOnUpTo (m + 1) received first (senders ++ e.1 ∷ [])
go_on_taken m received first senders e lt at ascending next was =
    let long : length (senders ++ e.1 ∷ []) ≡ length senders + 1 = length_push senders e.1 in
    let held : get_or received m e ≡ e = get_or_from_slice_get received m e e at in
    record {
      within = let before = was.within in omega (arith, long, before);
      begins = take-push senders e.1 (length first) was.within ∙ was.begins;
      follow = λ k q le there. elim (cases_lt k (length senders)) [
        | inl less ↦ was.follow k q le (slice_get-push_before senders e.1 q k less there)
        | inr ge ↦ elim (cases_lt (length senders) k) [
          | inl gt ↦ absurd (slice_get-push_behind senders e.1 q k gt there)
          | inr le' ↦
              let here : k ≡ length senders = omega arith in
              let same : e.1 ≡ q = some_same e.1 q (sym (slice_get-push_at senders e.1) ∙ ap (λ j. slice_get (senders ++ e.1 ∷ []) j) (sym here) ∙ there) in
              let number : e.0 ≡ k + 1 = omega (arith, next, here) in
              let pair : ◌≡◌ {A = ℕ × ℕ} e (k + 1, q) = ap (λ j. (j, e.1)) number ∙ ap (λ j. (k + 1, j)) same in
              subst (Contains received) pair (m, lt, held)
        ]
      ];
      end = λ i f less there same.
          let here : i < length received = slice_get_within received i f there in
          let f_is : get_or received i e ≡ f = get_or_from_slice_get received i f e there in
          let order : (get_or received i e).0 ≤ (get_or received m e).0 = ascending i m e (omega arith) lt in
          let low : f.0 ≤ e.0 = subst (λ (x : ℕ × ℕ). f.0 ≤ x.0) held (subst (λ (x : ℕ × ℕ). x.0 ≤ (get_or received m e).0) f_is order) in
          omega (arith, low, next, same, long);
    }

pub go_on_left : (m : ℕ) (received : List (ℕ × ℕ)) (first senders : List ℕ) (e : ℕ × ℕ) → slice_get received m ≡ Some e
    → e.0 ≢ length senders + 1 → GoOnUpTo m received first senders → GoOnUpTo (m + 1) received first senders
go_on_left m received first senders e at not was = record {
  within = was.within;
  begins = was.begins;
  follow = was.follow;
  end = λ i f less there. elim (cases_lt i m) [
    | inl before ↦ was.end i f before there
    | inr ge ↦
        let here : i ≡ m = omega arith in
        let same : e ≡ f = some_same e f (sym at ∙ ap (λ j. slice_get received j) (sym here) ∙ there) in
        subst (λ (x : ℕ × ℕ). x.0 ≢ length senders + 1) same not
  ];
}

pub go_on_all : (m : ℕ) (received : List (ℕ × ℕ)) (first senders : List ℕ) → length received ≤ m → GoOnUpTo m received first senders → GoOnBehind received first senders
go_on_all m received first senders long was = record {
  within = was.within;
  begins = was.begins;
  follow = was.follow;
  end = λ e there. was.end there.0 e (let lt = there.1 in omega (arith, lt)) (slice_get-get_or received there.0 e there.1 ∙ ap (λ (x : ℕ × ℕ). Some x) there.2);
}

-- ---- the receipts that rows tell
pub received_none : (rows : List PendingRow) → AreReceivedBy 1 rows []
received_none rows = record {
  told = λ e there. let lt = there.1 in absurd (omega (arith, lt));
  all = λ i q before row lt. absurd (omega arith);
}

pub received_told : (k m : ℕ) (rows : List PendingRow) (received : List (ℕ × ℕ)) (before row : PendingRow) (q : ℕ) → k + 1 ≡ m
    → slice_get rows k ≡ Some before → slice_get rows m ≡ Some row → IsFrom before row q
    → AreReceivedBy m rows received → AreReceivedBy (m + 1) rows (received ++ (row.x, q) ∷ [])
received_told k m rows received before row q next at_before at_row from was =
    let later : slice_get rows (k + 1) ≡ Some row = ap (λ j. slice_get rows j) next ∙ at_row in
    record {
      told = λ e there. elim (Contains-push_cases received (row.x, q) e there) [
        | inl old ↦ let o = was.told e old in (o.0, o.1, o.2, omega (arith, o.3), o.4, o.5, o.6, o.7)
        | inr same ↦ (k, before, row, omega (arith, next), at_before, later, ap (λ (x : ℕ × ℕ). x.0) (sym same), subst (λ (x : ℕ × ℕ). IsFrom before row x.1) same from)
      ];
      all = λ i p b r lt at_b at_r is small. elim (cases_lt (i + 1) m) [
        | inl less ↦ Contains-append_left received ((row.x, q) ∷ []) (r.x, p) (was.all i p b r less at_b at_r is small)
        | inr ge ↦
            let here : i ≡ k = omega (arith, next) in
            let b_is : before ≡ b = some_same before b (sym at_before ∙ ap (λ j. slice_get rows j) (sym here) ∙ at_b) in
            let r_is : row ≡ r = some_same row r (sym later ∙ ap (λ j. slice_get rows (j + 1)) (sym here) ∙ at_r) in
            let is' : IsFrom before row p = subst (λ x. IsFrom x row p) (sym b_is) (subst (λ x. IsFrom b x p) (sym r_is) is) in
            let q_is : q ≡ p = first_change_one before.got row.got q p from.change is'.change in
            let pair : ◌≡◌ {A = ℕ × ℕ} (row.x, q) (r.x, p) = ap (λ (x : PendingRow). (x.x, q)) r_is ∙ ap (λ j. (r.x, j)) q_is in
            subst (Contains (received ++ (row.x, q) ∷ [])) pair (Contains-push received (row.x, q))
      ];
    }

pub received_left : (k m : ℕ) (rows : List PendingRow) (received : List (ℕ × ℕ)) (before row : PendingRow) → k + 1 ≡ m
    → slice_get rows k ≡ Some before → slice_get rows m ≡ Some row → ((q : ℕ) → IsFrom before row q → q < 256 → ⊥)
    → AreReceivedBy m rows received → AreReceivedBy (m + 1) rows received
received_left k m rows received before row next at_before at_row none was =
    let later : slice_get rows (k + 1) ≡ Some row = ap (λ j. slice_get rows j) next ∙ at_row in
    record {
      told = λ e there. let o = was.told e there in (o.0, o.1, o.2, omega (arith, o.3), o.4, o.5, o.6, o.7);
      all = λ i p b r lt at_b at_r is small. elim (cases_lt (i + 1) m) [
        | inl less ↦ was.all i p b r less at_b at_r is small
        | inr ge ↦
            let here : i ≡ k = omega (arith, next) in
            let b_is : before ≡ b = some_same before b (sym at_before ∙ ap (λ j. slice_get rows j) (sym here) ∙ at_b) in
            let r_is : row ≡ r = some_same row r (sym later ∙ ap (λ j. slice_get rows (j + 1)) (sym here) ∙ at_r) in
            absurd (none p (subst (λ x. IsFrom x row p) (sym b_is) (subst (λ x. IsFrom b x p) (sym r_is) is)) small)
      ];
    }

pub received_all : (m : ℕ) (rows : List PendingRow) (received : List (ℕ × ℕ)) → length rows ≤ m → AreReceivedBy m rows received → AreReceivedBy (length rows) rows received
received_all m rows received long was = record {
  told = λ e there. let o = was.told e there in (o.0, o.1, o.2, slice_get_within rows (o.0 + 1) o.2 o.5, o.4, o.5, o.6, o.7);
  all = λ i q before row lt. was.all i q before row (omega arith);
}

pub received_sorted : (m : ℕ) (rows : List PendingRow) (received sorted : List (ℕ × ℕ)) → IsPermutation received sorted → AreReceivedBy m rows received → AreReceivedBy m rows sorted
received_sorted m rows received sorted same was = record {
  told = λ e there. was.told e (Contains-permutation sorted received e (IsPermutation-sym received sorted same) there);
  all = λ i q before row lt at_before at_row from small. Contains-permutation received sorted (row.x, q) same (was.all i q before row lt at_before at_row from small);
}
