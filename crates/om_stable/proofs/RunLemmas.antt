-- Records of intervals without a gap: what stands where, and in which order.
use Rattle.std.proofs.Common.{◌≡◌, ◌≢◌, ◌⊎◌, inl, inr, ℕ, zero, suc, ◌+◌, ◌-◌, ◌<◌, ◌≤◌, Bool, true, false, cond, List, [], ◌∷◌, ◌++◌, length, length-take-le, drop, take, get_or, refl, sym, ap, ◌∙◌, arith, subst, Vec}
use Rattle.std.specs.declared.alloc.Global.{Global}
use Rattle.std.specs.Prelude.{None, Some, IsSome, is_some, filter, ◌&&◌, nat_lt, nat_le}
use Rattle.std.specs.List.{enumerate_from, slice_get, SwappedAt}
use Rattle.std.proofs.lemmas.List.FromFn.{get_or-enumerate_from, length-enumerate_from}
use Rattle.std.specs.Bool.{OnTrue, OnFalse}
use Rattle.std.specs.Ordering.{nat_cmp, eq_by_cmp, is_lt, ord_max, ord_min}
use Rattle.std.specs.Cmp.{nat_cmp_total}
use Rattle.std.specs.declared.cmp.Ordering.TheVariants.{Less}
use Rattle.std.specs.FinMap.{empty, get, insert, retain_keys, entries, put, get-empty, get-insert, entries-insert}
use Rattle.std.specs.FinMap.Entries.{by_order}
use Rattle.std.proofs.lemmas.Bool.{cases_eq, cases_lt, leb-true, leb-false, ltb-true, ltb-false, OnTrue_from, OnFalse_from}
use Rattle.std.proofs.lemmas.Bool.Decides.{nat_tests}
use Rattle.std.proofs.lemmas.List.{drop-map, take-map, drop-drop, drop-take, length-drop, map_more, get_or-drop, get_or-take, same_lists}
use Rattle.std.proofs.Math.Logic.{⊎_elim}
use Rattle.std.proofs.Math.Nat.{add-zero}
use Rattle.std.proofs.Math.Seq.{drop-length}
use Rattle.om_stable.specs.Content.{Records, with_all, between, bytes_of, rows_of, IsFree, IsTaken}
use Rattle.om_stable.specs.steps.Runs.{AreBelow, rows_from}
use Rattle.om_stable.proofs.RecordLemmas.{same_records, get-insert_here, get-insert_apart, get-with_all_below, get-with_all_above, get-with_all_at, retained_from_parts, length-bytes_of_taken}
use Rattle.om_stable.proofs.TreeLemmas.{entries_of_empty}

-- ---- what stands at an interval
abbrev pub run_of : ℕ → List (List ℕ) → Records
run_of first rs = with_all empty first rs

-- maps that answer alike at q do so with the same records added
get_alike : (m n : Records) (first : ℕ) (rs : List (List ℕ)) (q : ℕ) → get m q ≡ get n q → get (with_all m first rs) q ≡ get (with_all n first rs) q
get_alike m n first [] q h = h
get_alike m n first (r ∷ rs) q h = get_alike (insert m first r) (insert n first r) (first + 1) rs q
    (get-insert nat_cmp_total m first r q ∙ ap (cond (eq_by_cmp nat_cmp q first) (Some r)) h ∙ sym (get-insert nat_cmp_total n first r q))

get_of_taken : (m : Records) (first : ℕ) (rs : List (List ℕ)) (n q : ℕ) → q < first + n → get (with_all m first (take n rs)) q ≡ get (with_all m first rs) q
get_of_taken m first rs zero q h = let under : q < first = omega arith in sym (get-with_all_below m first rs q under)
get_of_taken m first [] (suc n) q h = refl
get_of_taken m first (r ∷ rs) (suc n) q h = get_of_taken (insert m first r) (first + 1) rs n q (omega arith)

get_of_dropped : (m : Records) (first : ℕ) (rs : List (List ℕ)) (n q : ℕ) → first + n ≤ q → get (with_all m (first + n) (drop n rs)) q ≡ get (with_all m first rs) q
get_of_dropped m first rs zero q h = ap (λ x. get (with_all m x rs) q) (add-zero first)
get_of_dropped m first [] (suc n) q h = refl
get_of_dropped m first (r ∷ rs) (suc n) q h =
    let apart : q ≢ first = omega arith in
    ap (λ x. get (with_all m x (drop n rs)) q) (next first n)
    ∙ get_alike m (insert m first r) ((first + 1) + n) (drop n rs) q (sym (get-insert_apart m first r q apart))
    ∙ get_of_dropped (insert m first r) (first + 1) rs n q (omega arith)
  where
    next : (x n : ℕ) → x + suc n ≡ (x + 1) + n
    next x n = omega arith

some_at : (rs : List (List ℕ)) (i : ℕ) → i < length rs → (bytes : List ℕ) × (slice_get rs i ≡ Some bytes)
some_at [] i h = absurd (omega arith)
some_at (r ∷ rs) zero h = (r, refl)
some_at (r ∷ rs) (suc i) h = some_at rs i (omega arith)

pub held_in_run : (first : ℕ) (rs : List (List ℕ)) (q : ℕ) → first ≤ q → q < first + length rs → IsSome (get (run_of first rs) q)
held_in_run first rs q low high =
    let there = some_at rs (q - first) (omega arith) in
    let place : q ≡ first + (q - first) = omega arith in
    ap is_some (ap (get (run_of first rs)) place ∙ get-with_all_at empty first rs (q - first) there.0 there.1)

pub none_below_run : (first : ℕ) (rs : List (List ℕ)) (q : ℕ) → q < first → get (run_of first rs) q ≡ None
none_below_run first rs q h = get-with_all_below empty first rs q h ∙ get-empty nat_cmp q

pub none_above_run : (first : ℕ) (rs : List (List ℕ)) (q : ℕ) → first + length rs ≤ q → get (run_of first rs) q ≡ None
none_above_run first rs q h = get-with_all_above empty first rs q h ∙ get-empty nat_cmp q

-- ---- the part of a run that a bound leaves
pub run_up_to : (first : ℕ) (rs : List (List ℕ)) (r count : ℕ) → AreBelow first (length rs) (r + 1) count → run_of first (take count rs) ≡ retain_keys (run_of first rs) (λ x. nat_le x r)
run_up_to first rs r count part =
    let long : length (take count rs) ≡ count = length-take-le count rs part.within in
    let below = part.below in
    retained_from_parts (run_of first rs) (run_of first (take count rs)) (λ x. nat_le x r)
    (λ q kept. let le : q ≤ r = leb-true q r kept in ⊎_elim
    (λ inside. get_of_taken empty first rs count q inside)
    (λ over. ⊎_elim
    (λ whole. none_above_run first (take count rs) q (omega arith) ∙ sym (none_above_run first rs q (omega arith)))
    (λ part_of. ⊎_elim
    (λ under. none_below_run first (take count rs) q under ∙ sym (none_below_run first rs q under))
    (λ from. absurd (omega arith)) (cases_lt q first))
    part.all)
    (cases_lt q (first + count)))
    (λ q gone. let over : r < q = omega (arith, leb-false q r gone) in ⊎_elim
    (λ under. none_below_run first (take count rs) q under)
    (λ from. none_above_run first (take count rs) q (omega arith))
    (cases_lt q first))

pub run_from : (first : ℕ) (rs : List (List ℕ)) (least count : ℕ) → AreBelow first (length rs) least count → run_of (first + count) (drop count rs) ≡ retain_keys (run_of first rs) (λ x. nat_le least x)
run_from first rs least count part =
    let below = part.below in
    let within = part.within in
    let long : length (drop count rs) ≡ length rs - count = length-drop count rs in
    retained_from_parts (run_of first rs) (run_of (first + count) (drop count rs)) (λ x. nat_le least x)
    (λ q kept. let ge : least ≤ q = leb-true least q kept in ⊎_elim
    (λ under. none_below_run (first + count) (drop count rs) q under ∙ sym (none_below_run first rs q (omega arith)))
    (λ over. get_of_dropped empty first rs count q over)
    (cases_lt q (first + count)))
    (λ q gone. let less : q < least = omega (arith, leb-false least q gone) in ⊎_elim
    (λ under. none_below_run (first + count) (drop count rs) q under)
    (λ over. ⊎_elim
    (λ whole. none_above_run (first + count) (drop count rs) q (omega arith))
    (λ part_of. absurd (omega arith))
    part.all)
    (cases_lt q (first + count)))

-- ---- a run in ascending order
-- a record before all those that are added may be put last
front_last : (m : Records) (k x : ℕ) (bytes : List ℕ) (rs : List (List ℕ)) → x < k → with_all (insert m x bytes) k rs ≡ insert (with_all m k rs) x bytes
front_last m k x bytes rs before = same_records _ _ (λ q. ⊎_elim
    (λ same. let under : q < k = omega arith in
    get-with_all_below (insert m x bytes) k rs q under
    ∙ ap (get (insert m x bytes)) same ∙ get-insert_here m x bytes
    ∙ sym (ap (get (insert (with_all m k rs) x bytes)) same ∙ get-insert_here (with_all m k rs) x bytes))
    (λ apart. get_alike (insert m x bytes) m k rs q (get-insert_apart m x bytes q apart)
    ∙ sym (get-insert_apart (with_all m k rs) x bytes q apart))
    (cases_eq q x))

rises : (x : ℕ) → nat_cmp x (x + 1) ≡ Less
rises x = grind (arith, nat_tests)

put_front : (x : ℕ) (bytes : List ℕ) (rs : List (List ℕ)) → put nat_cmp x bytes (rows_from (x + 1) rs) ≡ (x, bytes) ∷ rows_from (x + 1) rs
put_front x bytes [] = refl
put_front x bytes (r ∷ rs) = ap (λ o. by_order o ((x, bytes) ∷ rows_from (x + 1) (r ∷ rs)) ((x + 1, bytes) ∷ rows_from ((x + 1) + 1) rs) ((x + 1, r) ∷ put nat_cmp x bytes (rows_from ((x + 1) + 1) rs))) (rises x)

pub entries_of_run : (first : ℕ) (rs : List (List ℕ)) → entries (run_of first rs) ≡ rows_from first rs
entries_of_run first [] = entries_of_empty
entries_of_run first (r ∷ rs) =
    ap entries (front_last empty (first + 1) first r rs (omega arith))
    ∙ entries-insert nat_cmp_total (run_of (first + 1) rs) first r
    ∙ ap (put nat_cmp first r) (entries_of_run (first + 1) rs) ∙ put_front first r rs

-- ---- the records of a run between two intervals
abbrev lies : ℕ → ℕ → ℕ × List ℕ → Bool
lies after to e = nat_lt after e.0 && nat_le e.0 to

under_fails : (after to x : ℕ) → x ≤ after → (nat_lt after x && nat_le x to) ≡ false
under_fails after to x h = grind (arith, nat_tests)

over_fails : (after to x : ℕ) → to < x → (nat_lt after x && nat_le x to) ≡ false
over_fails after to x h = grind (arith, nat_tests)

inside_lies : (after to x : ℕ) → after < x → x ≤ to → (nat_lt after x && nat_le x to) ≡ true
inside_lies after to x low high = grind (arith, nat_tests)

skip : (after to first : ℕ) (rs : List (List ℕ)) (a : ℕ) → a ≤ (after + 1) - first → filter (lies after to) (rows_from first rs) ≡ filter (lies after to) (rows_from (first + a) (drop a rs))
skip after to first rs zero h = sym (ap (λ x. filter (lies after to) (rows_from x rs)) (add-zero first))
skip after to first [] (suc a) h = refl
skip after to first (r ∷ rs) (suc a) h =
    let rest = filter (lies after to) (rows_from (first + 1) rs) in
    ap (λ b. cond b ((first, r) ∷ rest) rest) (under_fails after to first (omega arith))
    ∙ skip after to (first + 1) rs a (omega arith)
    ∙ ap (λ x. filter (lies after to) (rows_from x (drop a rs))) (next first a)
  where
    next : (x n : ℕ) → (x + 1) + n ≡ x + suc n
    next x n = omega arith

stop : (after to first : ℕ) (rs : List (List ℕ)) → to < first → filter (lies after to) (rows_from first rs) ≡ []
stop after to first [] h = refl
stop after to first (r ∷ rs) h =
    let rest = filter (lies after to) (rows_from (first + 1) rs) in
    ap (λ b. cond b ((first, r) ∷ rest) rest) (over_fails after to first h) ∙ stop after to (first + 1) rs (omega arith)

window : (after to first : ℕ) (rs : List (List ℕ)) (n : ℕ) → after < first → n ≤ length rs → n ≤ (to + 1) - first → (n ≡ length rs) ⊎ (to < first + n)
    → filter (lies after to) (rows_from first rs) ≡ rows_from first (take n rs)
window after to first [] zero low within below all = refl
window after to first [] (suc n) low within below all = refl
window after to first (r ∷ rs) zero low within below all =
    stop after to first (r ∷ rs) (⊎_elim (λ whole. absurd (omega arith)) (λ over. omega arith) all)
window after to first (r ∷ rs) (suc n) low within below all =
    let rest = filter (lies after to) (rows_from (first + 1) rs) in
    ap (λ b. cond b ((first, r) ∷ rest) rest) (inside_lies after to first low (omega arith))
    ∙ ap (λ rows. (first, r) ∷ rows) (window after to (first + 1) rs n (omega arith) (omega arith) (omega arith)
    (⊎_elim (λ whole. inl (omega arith)) (λ over. inr (omega arith)) all))

pub between_in_run : (first : ℕ) (rs : List (List ℕ)) (after to a b : ℕ) → AreBelow first (length rs) (after + 1) a → AreBelow first (length rs) (to + 1) b → a < b
    → rows_from (first + a) (take (b - a) (drop a rs)) ≡ between (run_of first rs) after to
between_in_run first rs after to a b low high lt =
    let low_below = low.below in
    let high_below = high.below in
    let high_within = high.within in
    let long : length (drop a rs) ≡ length rs - a = length-drop a rs in
    let over : after < first + a = ⊎_elim (λ whole. absurd (omega arith)) (λ part. omega arith) low.all in
    let all : (b - a ≡ length (drop a rs)) ⊎ (to < (first + a) + (b - a)) =
    ⊎_elim (λ whole. inl (omega arith)) (λ part. inr (omega arith)) high.all in
    sym (ap (filter (lies after to)) (entries_of_run first rs)
    ∙ skip after to first rs a low_below
    ∙ window after to (first + a) (drop a rs) (b - a) over (omega arith) (omega arith) all)

pub none_between : (first : ℕ) (rs : List (List ℕ)) (after to a b : ℕ) → AreBelow first (length rs) (after + 1) a → AreBelow first (length rs) (to + 1) b → b ≤ a
    → [] ≡ between (run_of first rs) after to
none_between first rs after to a b low high le =
    let within = low.within in
    sym (ap (filter (lies after to)) (entries_of_run first rs)
    ∙ skip after to first rs a low.below
    ∙ ⊎_elim
    (λ some. stop after to (first + a) (drop a rs) (⊎_elim (λ whole. absurd (omega arith)) (λ part. omega arith) high.all))
    (λ none. let all : a ≡ length rs = omega arith in
    ap (λ n. filter (lies after to) (rows_from (first + a) (drop n rs))) all
    ∙ ap (λ cs. filter (lies after to) (rows_from (first + a) cs)) (drop-length rs))
    (cases_lt a (length rs)))

-- ---- whether two runs of intervals meet
pub run_taken : (first : ℕ) (rs : List (List ℕ)) (from count low : ℕ) → from ≤ low → first ≤ low → low < from + count → low < first + length rs → IsTaken (run_of first rs) from count
run_taken first rs from count low ge_from ge_first inside held = (low, ge_from, inside, held_in_run first rs low ge_first held)

-- low is the greater of the two starts
pub run_free : (first : ℕ) (rs : List (List ℕ)) (from count low : ℕ) → (low ≡ from) ⊎ (low ≡ first) → from ≤ low → first ≤ low → (from + count ≤ low) ⊎ (first + length rs ≤ low) → IsFree (run_of first rs) from count
run_free first rs from count low greatest ge_from ge_first apart = λ x ge lt. ⊎_elim
    (λ under. none_below_run first rs x under)
    (λ at. ⊎_elim
    (λ over. none_above_run first rs x over)
    (λ inside. absurd (⊎_elim
    (λ is_from. ⊎_elim (λ h. omega arith) (λ h. omega arith) apart)
    (λ is_first. ⊎_elim (λ h. omega arith) (λ h. omega arith) apart)
    greatest))
    (above x))
    (cases_lt x first)
  where
    above : (x : ℕ) → (first + length rs ≤ x) ⊎ (x < first + length rs)
    above x = ⊎_elim (λ h. inr h) (λ h. inl h) (cases_lt x (first + length rs))

-- ---- records added behind a run
pub with_all-append : (m : Records) (first : ℕ) (xs ys : List (List ℕ)) → with_all m first (xs ++ ys) ≡ with_all (with_all m first xs) (first + length xs) ys
with_all-append m first [] ys = ap (λ x. with_all m x ys) (sym (add-zero first))
with_all-append m first (x ∷ xs) ys =
    with_all-append (insert m first x) (first + 1) xs ys
    ∙ ap (λ at. with_all (with_all (insert m first x) (first + 1) xs) at ys) (omega arith)

pub rows_from-push : (first : ℕ) (rs : List (List ℕ)) (r : List ℕ) → rows_from first (rs ++ r ∷ []) ≡ rows_from first rs ++ (first + length rs, r) ∷ []
rows_from-push first [] r = ap (λ x. (x, r) ∷ []) (sym (add-zero first))
rows_from-push first (s ∷ rs) r =
    ap (λ rows. (first, s) ∷ rows) (rows_from-push (first + 1) rs r
    ∙ ap (λ x. rows_from (first + 1) rs ++ (x, r) ∷ []) (omega arith))

-- ---- no record
pub nothing_added : (held : Records) (first : ℕ) (recs : List (Vec ℕ Global)) → length recs ≡ 0 → held ≡ with_all held first (bytes_of recs)
nothing_added held first [] none = refl
nothing_added held first (r ∷ recs) none = absurd (omega arith)

-- ---- a run without a record, wherever it begins
pub empty_run : (first other : ℕ) (rs : List (List ℕ)) (held : Records) → length rs ≡ 0 → run_of other rs ≡ held → run_of first rs ≡ held
empty_run first other [] held none is = is
empty_run first other (r ∷ rs) held none is = absurd (omega arith)

-- ---- the greater of two numbers and the lesser
lt_true : (a b : ℕ) → is_lt (nat_cmp a b) ≡ true → a < b
lt_true a b h = grind (arith, nat_tests)

lt_false : (a b : ℕ) → is_lt (nat_cmp a b) ≡ false → b ≤ a
lt_false a b h = grind (arith, nat_tests)

at_least : (a b low : ℕ) → low ≡ ord_max nat_cmp a b → (a ≤ low) × (b ≤ low)
at_least a b low e = elim (is_lt (nat_cmp b a)) as (λ t. is_lt (nat_cmp b a) ≡ t → low ≡ cond t a b → (a ≤ low) × (b ≤ low)) [
  | true ↦ λ t e. let lt : b < a = lt_true b a t in (omega arith, omega arith)
  | false ↦ λ t e. let le : a ≤ b = lt_false b a t in (omega arith, omega arith)
] refl e

one_of_starts : (a b low : ℕ) → low ≡ ord_max nat_cmp a b → (low ≡ a) ⊎ (low ≡ b)
one_of_starts a b low e = elim (is_lt (nat_cmp b a)) as (λ t. low ≡ cond t a b → (low ≡ a) ⊎ (low ≡ b)) [ true ↦ λ e. inl e | false ↦ λ e. inr e ] e

at_most : (a b top : ℕ) → top ≡ ord_min nat_cmp a b → (top ≤ a) × (top ≤ b)
at_most a b top e = elim (is_lt (nat_cmp b a)) as (λ t. is_lt (nat_cmp b a) ≡ t → top ≡ cond t b a → (top ≤ a) × (top ≤ b)) [
  | true ↦ λ t e. let lt : b < a = lt_true b a t in (omega arith, omega arith)
  | false ↦ λ t e. let le : a ≤ b = lt_false b a t in (omega arith, omega arith)
] refl e

one_of_ends : (a b top : ℕ) → top ≡ ord_min nat_cmp a b → (top ≡ a) ⊎ (top ≡ b)
one_of_ends a b top e = elim (is_lt (nat_cmp b a)) as (λ t. top ≡ cond t b a → (top ≡ a) ⊎ (top ≡ b)) [ true ↦ λ e. inr e | false ↦ λ e. inl e ] e

-- ---- a run whose records are `held`
module _ (first : ℕ) (rs : List (List ℕ)) (held : Records) (is : run_of first rs ≡ held) where
  pub kept_up_to : (r again long count : ℕ) (part : List (List ℕ)) → again ≡ r → long ≡ length rs → AreBelow first long (again + 1) count → part ≡ take count rs
      → run_of first part ≡ retain_keys held (λ x. nat_le x r)
  kept_up_to r again long count part same len below cut =
      let below_r = subst (λ n. AreBelow first n (r + 1) count) len (subst (λ n. AreBelow first long (n + 1) count) same below) in
      ap (run_of first) cut ∙ run_up_to first rs r count below_r ∙ ap (λ m. retain_keys m (λ x. nat_le x r)) is

  pub kept_from : (least long count : ℕ) (part : List (List ℕ)) → long ≡ length rs → AreBelow first long least count → part ≡ drop count rs
      → run_of (first + count) part ≡ retain_keys held (λ x. nat_le least x)
  kept_from least long count part len below cut =
      ap (run_of (first + count)) cut ∙ run_from first rs least count (subst (λ n. AreBelow first n least count) len below)
      ∙ ap (λ m. retain_keys m (λ x. nat_le least x)) is

  pub appended : (ys all : List (List ℕ)) (at : ℕ) → all ≡ rs ++ ys → at ≡ first + length rs → run_of first all ≡ with_all held at ys
  appended ys all at joined end =
      ap (run_of first) joined ∙ with_all-append empty first rs ys
      ∙ ap (λ m. with_all m (first + length rs) ys) is ∙ ap (λ x. with_all held x ys) (sym end)

  -- low is the greater of the two starts, top the lesser of the two ends
  module _ (from count start again long low top : ℕ) (starts : start ≡ from) (starts_again : again ≡ from) (len : long ≡ length rs)
      (greater : low ≡ ord_max nat_cmp start first) (lesser : top ≡ ord_min nat_cmp (again + count) (first + long)) where
    pub taken_where_they_meet : OnTrue (nat_lt low top) (IsTaken held from count)
    taken_where_they_meet = OnTrue_from (nat_lt low top) _ (λ t.
        let lt : low < top = ltb-true low top t in
        let starts_high = at_least start first low greater in
        let ends_low = at_most (again + count) (first + long) top lesser in
        subst (λ m. IsTaken m from count) is (run_taken first rs from count low (omega arith) starts_high.1 (omega arith) (omega arith)))

    pub free_where_they_are_apart : OnFalse (nat_lt low top) (IsFree held from count)
    free_where_they_are_apart = OnFalse_from (nat_lt low top) _ (λ t.
        let ge : top ≤ low = omega (arith, ltb-false low top t) in
        let starts_high = at_least start first low greater in
        subst (λ m. IsFree m from count) is (run_free first rs from count low
        (⊎_elim (λ h. inl (h ∙ starts)) (λ h. inr h) (one_of_starts start first low greater)) (omega arith) starts_high.1
        (⊎_elim (λ h. inl (omega arith)) (λ h. inr (omega arith)) (one_of_ends (again + count) (first + long) top lesser))))

  pub found_between : (rows : List (ℕ × Vec ℕ Global)) (after to again until long a b at : ℕ) → long ≡ length rs
      → again ≡ after → until ≡ to → AreBelow first long (again + 1) a → AreBelow first long (until + 1) b → a < b → at ≡ first + a
      → rows_of rows ≡ rows_from at (take (b - a) (drop a rs)) → rows_of rows ≡ between held after to
  found_between rows after to again until long a b at len same until_to low high lt start found =
      let low_part = subst (λ n. AreBelow first n (after + 1) a) len (subst (λ n. AreBelow first long (n + 1) a) same low) in
      let high_part = subst (λ n. AreBelow first n (to + 1) b) len (subst (λ n. AreBelow first long (n + 1) b) until_to high) in
      found
      ∙ ap (λ x. rows_from x (take (b - a) (drop a rs))) start
      ∙ between_in_run first rs after to a b low_part high_part lt
      ∙ ap (λ m. between m after to) is

  pub nothing_between : (after to again until long a b : ℕ) → long ≡ length rs → again ≡ after → until ≡ to → AreBelow first long (again + 1) a → AreBelow first long (until + 1) b → b ≤ a
      → [] ≡ between held after to
  nothing_between after to again until long a b len same until_to low high le =
      let low_part = subst (λ n. AreBelow first n (after + 1) a) len (subst (λ n. AreBelow first long (n + 1) a) same low) in
      let high_part = subst (λ n. AreBelow first n (to + 1) b) len (subst (λ n. AreBelow first long (n + 1) b) until_to high) in
      none_between first rs after to a b low_part high_part le ∙ ap (λ m. between m after to) is

-- one more row behind those so far
pub rows_from-next : (found new : List (ℕ × Vec ℕ Global)) (first k x : ℕ) (recs : List (Vec ℕ Global)) (v w : Vec ℕ Global) (bytes : List ℕ) → k < length recs → v ≡ get_or recs k v
    → rows_of found ≡ rows_from first (bytes_of (take k recs)) → x ≡ first + k → w.items ≡ bytes → bytes ≡ v.items → rows_of new ≡ rows_of found ++ (x, w.items) ∷ []
    → rows_of new ≡ rows_from first (bytes_of (take (k + 1) recs))
rows_from-next found new first k x recs v w bytes within here so_far at copied same put =
    let rs = bytes_of (take k recs) in
    let long : length rs ≡ k = length-bytes_of_taken recs k (omega arith) in
    let item : w.items ≡ (get_or recs k v).items = copied ∙ same ∙ ap (λ r. r.items) here in
    put ∙ ap (λ rows. rows ++ (x, w.items) ∷ []) so_far
    ∙ ap (λ y. rows_from first rs ++ (y, w.items) ∷ []) (at ∙ ap (λ n. first + n) (sym long))
    ∙ ap (λ r. rows_from first rs ++ (first + length rs, r) ∷ []) item
    ∙ sym (rows_from-push first rs (get_or recs k v).items)
    ∙ ap (rows_from first) (sym (map_more (λ (r : Vec ℕ Global). r.items) recs k v within))

-- a turn of a loop over a list with numbers
pub turn_at : {X : Type 0} (xs : List X) (k i : ℕ) (x : X) → (k < length (enumerate_from 0 xs)) × ((i, x) ≡ get_or (enumerate_from 0 xs) k (i, x))
    → (k < length xs) × (i ≡ k) × (x ≡ get_or xs k x)
turn_at {X = X} xs k i x turn =
    let lt : k < length xs = subst (λ n. k < n) (length-enumerate_from 0 xs) turn.0 in
    let number : i ≡ 0 + k = ap (λ (p : ℕ × X). p.0) (turn.1 ∙ get_or-enumerate_from 0 xs k (i, x) lt) in
    (lt, omega (arith, number), ap (λ (p : ℕ × X). p.1) (turn.1 ∙ get_or-enumerate_from 0 xs k (i, x) lt))
