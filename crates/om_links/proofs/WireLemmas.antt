-- How the inboxes of a cluster are made.
use Rattle.std.proofs.Common.{◌≡◌, ◌≢◌, ◌⊎◌, inl, inr, ℕ, zero, suc, ◌+◌, ◌<◌, ◌≤◌, List, [], ◌∷◌, ◌++◌, Some, None, refl, sym, ap, ◌∙◌, subst, arith, get_or, length, length-append, set, replicate}
use Rattle.std.specs.Prelude.{Vec, slice_get}
use Rattle.std.specs.declared.alloc.Global.{Global}
use Rattle.std.proofs.Math.Seq.{map-set_same}
use Rattle.std.proofs.lemmas.List.{map-set, length-map}
use Rattle.std.proofs.lemmas.Option.{same_Some, slice_get_cases, slice_get_within}
use Rattle.om_board.specs.Inboxes.{Line, Traffic, Takings}
use Rattle.om_links.specs.declared.network.Ends.{Ends}
use Rattle.om_links.specs.Network.{IsAt, Lines}
use Rattle.om_links.specs.steps.Rows.{AreRows, HavePuts, IsRow, all_put, all_taken, grown_at, lines_put, lines_taken, with_row, with_rows}
use Rattle.om_links.specs.Wiring.{HasEnds, IsWired}
use Rattle.om_board.proofs.ListLemmas.{map_get, map_had, more_had, none_in}

-- ---- an element that was set
set_here : {A : Type 0} (xs : List A) (i : ℕ) (y : A) → i < length xs → slice_get (set xs i y) i ≡ Some y
set_here [] i y lt = absurd (omega arith)
set_here (x ∷ xs) zero y lt = refl
set_here (x ∷ xs) (suc i) y lt = set_here xs i y (omega arith)

set_apart : {A : Type 0} (xs : List A) (i j : ℕ) (y : A) → j ≢ i → slice_get (set xs i y) j ≡ slice_get xs j
set_apart [] i j y ne = refl
set_apart (x ∷ xs) zero zero y ne = absurd (ne refl)
set_apart (x ∷ xs) zero (suc j) y ne = refl
set_apart (x ∷ xs) (suc i) zero y ne = refl
set_apart (x ∷ xs) (suc i) (suc j) y ne = set_apart xs i j y (omega arith)

-- ---- one list of each process
-- setting one end whose passes to take have one more
pub taken_grown : (ends : List Ends) (i : ℕ) (d e : Ends) (line : Line) → i < length ends → lines_taken e.takes.items ≡ lines_taken (get_or ends i d).takes.items ++ line ∷ []
    → all_taken (set ends i e) ≡ grown_at (all_taken ends) i line
taken_grown [] i d e line lt is = absurd (omega arith)
taken_grown (x ∷ ends) zero d e line lt is = ap (λ l. l ∷ all_taken ends) is
taken_grown (x ∷ ends) (suc i) d e line lt is = ap (λ l. lines_taken x.takes.items ∷ l) (taken_grown ends i d e line (omega arith) is)

pub taken_same : (ends : List Ends) (i : ℕ) (d e : Ends) → lines_taken e.takes.items ≡ lines_taken (get_or ends i d).takes.items → all_taken (set ends i e) ≡ all_taken ends
taken_same ends i d e is = map-set_same (λ (x : Ends). lines_taken x.takes.items) ends i e d is

pub put_same : (ends : List Ends) (i : ℕ) (d e : Ends) → lines_put e.puts.items ≡ lines_put (get_or ends i d).puts.items → all_put (set ends i e) ≡ all_put ends
put_same ends i d e is = map-set_same (λ (x : Ends). lines_put x.puts.items) ends i e d is

pub put_set : (ends : List Ends) (i : ℕ) (e : Ends) → all_put (set ends i e) ≡ set (all_put ends) i (lines_put e.puts.items)
put_set ends i e = map-set (λ (x : Ends). lines_put x.puts.items) ends i e

-- ---- rows
pub no_row : (xss : List (List Line)) → with_row xss [] ≡ xss
no_row [] = refl
no_row (xs ∷ xss) = refl

pub row_more : (xss : List (List Line)) (row : List Line) (line : Line) → length row < length xss → grown_at (with_row xss row) (length row) line ≡ with_row xss (row ++ line ∷ [])
row_more [] row line lt = absurd (omega arith)
row_more (xs ∷ xss) [] line lt = ap (λ yss. (xs ++ line ∷ []) ∷ yss) (sym (no_row xss))
row_more (xs ∷ xss) (l ∷ row) line lt = ap (λ yss. (xs ++ l ∷ []) ∷ yss) (row_more xss row line (omega arith))

pub rows_more : (xss : List (List Line)) (rows : Lines) (row : Vec Line Global) → with_row (with_rows xss rows) row.items ≡ with_rows xss (rows ++ row ∷ [])
rows_more xss [] row = refl
rows_more xss (r ∷ rows) row = rows_more (with_row xss r.items) rows row

row_of_none : (from : ℕ) → IsRow from []
row_of_none from = record { from_is = λ to line e. absurd (none_in to line e); to_is = λ to line e. absurd (none_in to line e) }

pub no_row_yet : (from : ℕ) (row : List Line) → row ≡ [] → IsRow from row
no_row_yet from row none = subst (IsRow from) (sym none) (row_of_none from)

pub row_goes_on : (from : ℕ) (row : List Line) (line : Line) → IsRow from row → line.from ≡ from → line.to ≡ length row → IsRow from (row ++ line ∷ [])
row_goes_on from row line is from_is to_is = record {
  from_is = λ to l e. elim (more_had row to line l e) [ inl here ↦ ap (λ (x : Line). x.from) here.1 ∙ from_is | inr there ↦ is.from_is to l there ];
  to_is = λ to l e. elim (more_had row to line l e) [ inl here ↦ ap (λ (x : Line). x.to) here.1 ∙ to_is ∙ sym here.0 | inr there ↦ is.to_is to l there ];
}

pub rows_go_on : (n : ℕ) (rows : Lines) (row : Vec Line Global) → AreRows n rows → length row.items ≡ n → IsRow (length rows) row.items → AreRows n (rows ++ row ∷ [])
rows_go_on n rows row are long is = record {
  long = λ from r e. elim (more_had rows from row r e) [ inl here ↦ ap (λ (v : Vec Line Global). length v.items) here.1 ∙ long | inr there ↦ are.long from r there ];
  pairs = λ from r e. elim (more_had rows from row r e) [
    | inl here ↦ subst (λ k. IsRow k r.items) (sym here.0) (subst (λ (v : Vec Line Global). IsRow (length rows) v.items) (sym here.1) is)
    | inr there ↦ are.pairs from r there
  ];
}

-- the senders before keep their passes, and the next one has its own
pub puts_go_on : (rows : Lines) (row : Vec Line Global) (puts : List Line) (old new : List Ends) → HavePuts rows old → puts ≡ row.items → length rows < length old
    → all_put new ≡ set (all_put old) (length rows) puts → HavePuts (rows ++ row ∷ []) new
puts_go_on rows row puts old new have is lt put p r e at there = elim (more_had rows p row r at) [
  | inl here ↦
      let own : slice_get (set (all_put old) (length rows) puts) p ≡ Some puts = subst (λ k. slice_get (set (all_put old) (length rows) puts) k ≡ Some puts) (sym here.0) (set_here (all_put old) (length rows) puts (subst (λ k. length rows < k) (sym (length-map old (λ (x : Ends). lines_put x.puts.items))) lt)) in
      same_Some (lines_put e.puts.items) puts (sym now ∙ own) ∙ is ∙ sym (ap (λ (v : Vec Line Global). v.items) here.1)
  | inr before ↦
      let less : p < length rows = slice_get_within rows p r before in
      let was = map_had (λ (x : Ends). lines_put x.puts.items) old p (lines_put e.puts.items) (sym (set_apart (all_put old) (length rows) p puts (omega arith)) ∙ now) in
      sym was.2 ∙ have p r was.0 before was.1
]
  where
    now : slice_get (set (all_put old) (length rows) puts) p ≡ Some (lines_put e.puts.items)
    now = subst (λ l. slice_get l p ≡ Some (lines_put e.puts.items)) put (map_get (λ (x : Ends). lines_put x.puts.items) new p e there)

-- ---- columns
row_had : (xss : List (List Line)) (row : List Line) (p : ℕ) (zs : List Line) → p < length row → slice_get (with_row xss row) p ≡ Some zs
    → (xs : List Line) × (y : Line) × (slice_get xss p ≡ Some xs) × (slice_get row p ≡ Some y) × (zs ≡ xs ++ y ∷ [])
row_had [] row p zs lt e = absurd (none_in p zs e)
row_had (xs ∷ xss) [] p zs lt e = absurd (omega arith)
row_had (xs ∷ xss) (y ∷ row) zero zs lt e = (xs, y, refl, refl, sym (same_Some (xs ++ y ∷ []) zs e))
row_had (xs ∷ xss) (y ∷ row) (suc p) zs lt e = row_had xss row p zs (omega arith) e

pub rows_had : (n : ℕ) (xss : List (List Line)) (rows : Lines) (p : ℕ) (zs : List Line) → p < n → ((from : ℕ) (row : Vec Line Global) → slice_get rows from ≡ Some row → length row.items ≡ n)
    → slice_get (with_rows xss rows) p ≡ Some zs
    → (xs : List Line) × (slice_get xss p ≡ Some xs) × (length zs ≡ length xs + length rows)
    × ((i : ℕ) (y : Line) → slice_get zs i ≡ Some y → (slice_get xs i ≡ Some y) ⊎ ((f : ℕ) × (i ≡ length xs + f) × IsAt rows f p y))
rows_had n xss [] p zs lt long e = (zs, e, omega arith, λ i y at. inl at)
rows_had n xss (r ∷ rows) p zs lt long e =
    let deep = rows_had n (with_row xss r.items) rows p zs lt (λ f row at. long (suc f) row at) e in
    let own = row_had xss r.items p deep.0 (subst (λ k. p < k) (sym (long 0 r refl)) lt) deep.1 in
    let grown : length deep.0 ≡ length own.0 + 1 = ap length own.4 ∙ length-append own.0 (own.1 ∷ []) in (
      own.0,
      own.2,
      (let d = deep.2 in omega arith),
      λ i y at. elim (deep.3 i y at) [
        | inl there ↦ elim (more_had own.0 i own.1 y (subst (λ l. slice_get l i ≡ Some y) own.4 there)) [
          | inl last ↦ inr (0, (let l = last.0 in omega arith), (r, refl, subst (λ z. slice_get r.items p ≡ Some z) (sym last.1) own.3))
          | inr before ↦ inl before
        ]
        | inr later ↦ inr (suc later.0, (let l = later.1 in omega arith), (later.2.0, later.2.1, later.2.2))
      ],
    )

none_of : (n p : ℕ) (xs : List Line) → slice_get (replicate n []) p ≡ Some xs → xs ≡ []
none_of zero p xs e = absurd (none_in p xs e)
none_of (suc n) zero xs e = sym (same_Some [] xs e)
none_of (suc n) (suc p) xs e = none_of n p xs e

-- ---- the whole
pub wired : (n : ℕ) (lines : Lines) (ends : List Ends) → length lines ≡ n → length ends ≡ n → AreRows n lines → HavePuts lines ends → all_taken ends ≡ with_rows (replicate n []) lines
    → IsWired n lines ends
wired n lines ends long many rows puts takes = record {
  network = record {
    senders = long;
    receivers = rows.long;
    from = λ from to line at. (rows.pairs from at.0 at.1).from_is to line at.2;
    to = λ from to line at. (rows.pairs from at.0 at.1).to_is to line at.2;
  };
  many = many;
  have = λ p e at.
      let lt : p < n = subst (λ k. p < k) many (slice_get_within ends p e at) in
      by_row p e at lt (slice_get_cases lines p).1;
}
  where
    by_row : (p : ℕ) (e : Ends) → slice_get ends p ≡ Some e → p < n → ((r : Vec Line Global) × (p < length lines) × (slice_get lines p ≡ Some r) × (get_or lines p r ≡ r)) ⊎ ((length lines ≤ p) × (slice_get lines p ≡ None))
        → HasEnds n lines p e
    by_row p e at lt (inr past) = let l = past.0 in absurd (omega arith)
    by_row p e at lt (inl found) =
        let row = found.0 in
        let put = puts p row e found.2 at in
        let col = rows_had n (replicate n []) lines p (lines_taken e.takes.items) lt rows.long (subst (λ l. slice_get l p ≡ Some (lines_taken e.takes.items)) takes (map_get (λ (x : Ends). lines_taken x.takes.items) ends p e at)) in
        let empty = none_of n p col.0 col.1 in
        let none : length col.0 ≡ 0 = ap length empty in
        let all : length (lines_taken e.takes.items) ≡ n = (let a = col.2 in omega (arith, none, long)) in
        record {
          put = sym (length-map e.puts.items (λ (t : Traffic). t.line)) ∙ ap length put ∙ rows.long p row found.2;
          take = sym (length-map e.takes.items (λ (t : Takings). t.line)) ∙ all;
          putting = λ to t there. (row, found.2, subst (λ l. slice_get l to ≡ Some t.line) put (map_get (λ (x : Traffic). x.line) e.puts.items to t there));
          taking = λ from t there. elim (col.3 from t.line (map_get (λ (x : Takings). x.line) e.takes.items from t there)) [
            | inl before ↦ absurd (none_in from t.line (subst (λ l. slice_get l from ≡ Some t.line) empty before))
            | inr later ↦
                let same : later.0 ≡ from = (let l = later.1 in omega arith) in
                subst (λ f. IsAt lines f p t.line) same later.2
          ];
        }

-- an inbox from one process to another is the only one
pub same_line : (lines : Lines) (from to : ℕ) (a b : Line) → IsAt lines from to a → IsAt lines from to b → a ≡ b
same_line lines from to a b p q =
    let row : p.0 ≡ q.0 = same_Some p.0 q.0 (sym p.1 ∙ q.1) in
    same_Some a b (sym p.2 ∙ subst (λ (r : Vec Line Global). slice_get r.items to ≡ Some b) (sym row) q.2)
