-- The entries of an ordered tree of records, and the finite map that they make.
use Rattle.std.proofs.Common.{◌≡◌, ℕ, ◌+◌, ◌<◌, ◌≤◌, true, false, cond, List, [], ◌∷◌, ◌++◌, length, refl, sym, ap, ◌∙◌, arith, subst, Vec, Bor}
use Rattle.std.specs.declared.alloc.Global.{Global}
use Rattle.std.specs.Prelude.{Option, None, Some, IsSome, is_some, IfSome, filter, ◌&&◌, nat_lt, nat_le}
use Rattle.std.specs.Option.{option_map}
use Rattle.std.specs.Ordering.{nat_cmp, eq_by_cmp, is_gt}
use Rattle.std.specs.Cmp.{nat_cmp_total, eq_by_cmp_equiv}
use Rattle.std.specs.Bool.{OnTrue, OnFalse}
use Rattle.std.specs.List.{AllByRecursion, slice_get}
use Rattle.std.specs.List.Sorted.{IsStrictlySortedBy}
use Rattle.std.specs.Map.{lookup, keys_of}
use Rattle.std.specs.Map.Iter.{TakesFirst, deref_pair}
use Rattle.std.specs.BTreeMap.{BTreeMap, is_at, IsUpperBound, IsLowerBound}
use Rattle.std.specs.BTreeMap as tree
use Rattle.std.specs.BTreeMap.Range.{IsRangeOf, IsEntryInRange, range_contains, entries_between}
use Rattle.std.specs.declared.ops.Bound.TheVariants.{Included, Excluded, Unbounded}
use Rattle.std.proofs.lemmas.Bool.{false≢true}
use Rattle.std.proofs.lemmas.Map.Keys.{le_from_not_gt, ge_from_not_lt, sorted_head, sorted_tail}
use Rattle.std.proofs.lemmas.List.{nil_from_length}
use Rattle.std.proofs.lemmas.Bool.Decides.{nat_tests}
use Rattle.std.specs.declared.cmp.Ordering.TheVariants.{Less}
use Rattle.std.specs.FinMap.Entries.{by_order}
use Rattle.std.specs.FinMap.{find, get, insert, remove, from_entries, empty, entries, put, get-from_entries, get-insert, get-remove, entries-insert, len-entries, len-empty}
use Rattle.om_stable.specs.Content.{Records, rows_of, between, IsFree, IsTaken, IsEffective}
use Rattle.om_stable.proofs.RecordLemmas.{same_records}

abbrev pub Rows : Type 0
Rows = List (ℕ × Vec ℕ Global)

-- the bytes at q among these rows
abbrev pub bytes_at : Rows → ℕ → Option (List ℕ)
bytes_at rows q = option_map (λ v. v.items) (lookup (is_at (nat_cmp q)) rows)

-- the finite map that rows make
abbrev pub records_of : Rows → Records
records_of rows = from_entries (rows_of rows)

find-rows_of : (rows : Rows) (q : ℕ) → find nat_cmp q (rows_of rows) ≡ bytes_at rows q
find-rows_of [] q = refl
find-rows_of (e ∷ rows) q =
    elim (is_at (nat_cmp q) e.0) as (λ b. cond b (Some e.1.items) (find nat_cmp q (rows_of rows)) ≡ option_map (λ v. v.items) (cond b (Some e.1) (lookup (is_at (nat_cmp q)) rows))) [
      | true ↦ refl
      | false ↦ find-rows_of rows q
    ]

pub get-records_of : (rows : Rows) (q : ℕ) → get (records_of rows) q ≡ bytes_at rows q
get-records_of rows q = get-from_entries nat_cmp_total (rows_of rows) q ∙ find-rows_of rows q

-- rows that differ at x alone, where they have these bytes
pub records_of-put : (rows new : Rows) (x : ℕ) (v : Vec ℕ Global) → ((q : ℕ) → lookup (is_at (nat_cmp q)) new ≡ cond (is_at (nat_cmp x) q) (Some v) (lookup (is_at (nat_cmp q)) rows)) → records_of new ≡ insert (records_of rows) x v.items
records_of-put rows new x v h = same_records _ _ (λ q.
    get-records_of new q ∙ ap (option_map (λ v. v.items)) (h q)
    ∙ elim (is_at (nat_cmp x) q) as (λ b. option_map (λ v. v.items) (cond b (Some v) (lookup (is_at (nat_cmp q)) rows)) ≡ cond b (Some v.items) (bytes_at rows q)) [ true ↦ refl | false ↦ refl ]
    ∙ ap (λ b. cond b (Some v.items) (bytes_at rows q)) ((eq_by_cmp_equiv nat_cmp_total).symm x q)
    ∙ sym (get-insert nat_cmp_total (records_of rows) x v.items q ∙ ap (cond (eq_by_cmp nat_cmp q x) (Some v.items)) (get-records_of rows q)))

-- rows that differ at x alone, where they have none
pub records_of-gone : (rows new : Rows) (x : ℕ) → ((q : ℕ) → lookup (is_at (nat_cmp q)) new ≡ cond (is_at (nat_cmp x) q) None (lookup (is_at (nat_cmp q)) rows)) → records_of new ≡ remove (records_of rows) x
records_of-gone rows new x h = same_records _ _ (λ q.
    get-records_of new q ∙ ap (option_map (λ v. v.items)) (h q)
    ∙ elim (is_at (nat_cmp x) q) as (λ b. option_map (λ v. v.items) (cond b None (lookup (is_at (nat_cmp q)) rows)) ≡ cond b None (bytes_at rows q)) [ true ↦ refl | false ↦ refl ]
    ∙ ap (λ b. cond b None (bytes_at rows q)) ((eq_by_cmp_equiv nat_cmp_total).symm x q)
    ∙ sym (get-remove nat_cmp_total (records_of rows) x q ∙ ap (cond (eq_by_cmp nat_cmp q x) None) (get-records_of rows q)))

-- ---- lists of rows
pub entries_of_empty : entries (empty {X = List ℕ} {R = nat_cmp}) ≡ []
entries_of_empty = nil_from_length _ (sym (len-entries empty) ∙ len-empty nat_cmp (List ℕ))

-- the row of a least interval stands first
put_first : (k : ℕ) (bytes : List ℕ) (rows : Rows) → AllByRecursion (λ y. nat_cmp k y ≡ Less) (keys_of rows) → put nat_cmp k bytes (rows_of rows) ≡ (k, bytes) ∷ rows_of rows
put_first k bytes [] least = refl
put_first k bytes (e ∷ rows) least = ap (λ o. by_order o ((k, bytes) ∷ rows_of (e ∷ rows)) ((e.0, bytes) ∷ rows_of rows) ((e.0, e.1.items) ∷ put nat_cmp k bytes (rows_of rows))) least.0

pub entries-records_of : (rows : Rows) → IsStrictlySortedBy nat_cmp (keys_of rows) → entries (records_of rows) ≡ rows_of rows
entries-records_of [] sorted = entries_of_empty
entries-records_of (e ∷ rows) sorted =
    entries-insert nat_cmp_total (records_of rows) e.0 e.1.items
    ∙ ap (put nat_cmp e.0 e.1.items) (entries-records_of rows (sorted_tail nat_cmp e.0 (keys_of rows) sorted))
    ∙ put_first e.0 e.1.items rows (sorted_head nat_cmp e.0 (keys_of rows) sorted)

not_gt_from_le : (a b : ℕ) → a ≤ b → is_gt (nat_cmp a b) ≡ false
not_gt_from_le a b h = grind (arith, nat_tests)

same_test : (after to x : ℕ) → range_contains nat_cmp (Excluded after) (Included to) x ≡ (nat_lt after x && nat_le x to)
same_test after to x = grind (arith, nat_tests)

rows_of-entries_between : (after to : ℕ) (rows : Rows) → rows_of (entries_between nat_cmp (Excluded after) (Included to) rows) ≡ filter (λ e. nat_lt after e.0 && nat_le e.0 to) (rows_of rows)
rows_of-entries_between after to [] = refl
rows_of-entries_between after to (e ∷ rows) =
    let rest = rows_of-entries_between after to rows in
    ap (λ b. rows_of (cond b (e ∷ entries_between nat_cmp (Excluded after) (Included to) rows) (entries_between nat_cmp (Excluded after) (Included to) rows))) (same_test after to e.0)
    ∙ elim (nat_lt after e.0 && nat_le e.0 to) as (λ b. rows_of (cond b (e ∷ entries_between nat_cmp (Excluded after) (Included to) rows) (entries_between nat_cmp (Excluded after) (Included to) rows)) ≡ cond b ((e.0, e.1.items) ∷ filter (λ e. nat_lt after e.0 && nat_le e.0 to) (rows_of rows)) (filter (λ e. nat_lt after e.0 && nat_le e.0 to) (rows_of rows))) [
      | true ↦ ap (λ rest. (e.0, e.1.items) ∷ rest) rest
      | false ↦ rest
    ]

-- nothing lies between the ends of a range that runs backwards
pub between_backwards : (after to : ℕ) (held : Records) → to < after → [] ≡ between held after to
between_backwards after to held h = none_passes (entries held)
  where
    none_passes : (es : List (ℕ × List ℕ)) → [] ≡ filter (λ e. nat_lt after e.0 && nat_le e.0 to) es
    none_passes [] = refl
    none_passes (e ∷ es) = none_passes es ∙ ap (λ b. cond b (e ∷ filter (λ e. nat_lt after e.0 && nat_le e.0 to) es) (filter (λ e. nat_lt after e.0 && nat_le e.0 to) es)) (never e.0)
      where
        never : (x : ℕ) → false ≡ (nat_lt after x && nat_le x to)
        never x = grind (arith, nat_tests)

-- ---- a tree whose records are `held`
module _ (m : BTreeMap ℕ (Vec ℕ Global)) (held : Records) (is : records_of m.entries ≡ held) where
  pub held_at : (q : ℕ) → get held q ≡ option_map (λ v. v.items) (tree.get nat_cmp m q)
  held_at q = sym (ap (λ n. get n q) is) ∙ get-records_of m.entries q

  pub held_some : (q : ℕ) (v : Vec ℕ Global) → tree.get nat_cmp m q ≡ Some v → get held q ≡ Some v.items
  held_some q v h = held_at q ∙ ap (option_map (λ v. v.items)) h

  pub held_none : (q : ℕ) → tree.get nat_cmp m q ≡ None → get held q ≡ None
  held_none q h = held_at q ∙ ap (option_map (λ v. v.items)) h

  pub is_some-held : (q : ℕ) → is_some (tree.get nat_cmp m q) ≡ is_some (get held q)
  is_some-held q = sym (ap is_some (held_at q) ∙ elim (tree.get nat_cmp m q) as (λ o. is_some (option_map (λ v. v.items) o) ≡ is_some o) [ None ↦ refl | Some v ↦ refl ])

  -- what is held at q stands in the tree
  in_tree : (q : ℕ) → IsSome (get held q) → IsSome (tree.get nat_cmp m q)
  in_tree q h = is_some-held q ∙ h

  none_unless : (q : ℕ) → (IsSome (tree.get nat_cmp m q) → ⊥) → get held q ≡ None
  none_unless q never = elim (tree.get nat_cmp m q) as (λ o. (IsSome o → ⊥) → get held q ≡ option_map (λ v. v.items) o → get held q ≡ None) [
    | None ↦ λ never e. e
    | Some v ↦ λ never e. absurd (never refl)
  ] never (held_at q)

  pub none_above : (k : ℕ) → IsUpperBound nat_cmp m k → (q : ℕ) → k < q → get held q ≡ None
  none_above k top q h = none_unless q (λ there. let le : q ≤ k = ge_from_not_lt k q (top q there) in absurd (omega arith))

  pub none_below : (k : ℕ) → IsLowerBound nat_cmp m k → (q : ℕ) → q < k → get held q ≡ None
  none_below k bottom q h = none_unless q (λ there. let le : k ≤ q = le_from_not_gt k q (bottom q there) in absurd (omega arith))

  -- a tree in which there is no first record holds none
  pub none_of_empty : (0 < length m.entries → false ≡ true) → (q : ℕ) → get held q ≡ None
  none_of_empty first q = held_none q (elim m.entries as (λ es. (0 < length es → false ≡ true) → lookup (is_at (nat_cmp q)) es ≡ None) [ [] ↦ λ _. refl | e ∷ es ↦ λ first. absurd (false≢true (first (omega arith))) ] first)

  -- ---- what a range of the tree says of the records
  -- a record that a range finds stands in it, and one stands in it where the range finds any
  pub taken_if_found : (first count from last : ℕ) (r t : Rows) (o : Option (Bor ℕ × Bor (Vec ℕ Global))) → from ≡ first → last + 1 ≡ first + count → IsRangeOf nat_cmp (Included from) (Included last) m r → TakesFirst deref_pair r o t → OnTrue (is_some o) (IsTaken held first count)
  taken_if_found first count from last r t None start end range step = tt
  taken_if_found first count from last r t (Some e) start end range step =
      let here : IsEntryInRange nat_cmp (Included from) (Included last) m (e.0.now, e.1.now) = subst (λ rows. IfSome (slice_get rows 0) (IsEntryInRange nat_cmp (Included from) (Included last) m)) step range.1 in
      let above : from ≤ e.0.now = le_from_not_gt from e.0.now here.0.0 in
      let below : e.0.now ≤ last = le_from_not_gt e.0.now last here.0.1 in
      (e.0.now, omega arith, omega arith, ap is_some (held_some e.0.now e.1.now here.1))

  pub free_if_none : (first count from last : ℕ) (r t : Rows) (o : Option (Bor ℕ × Bor (Vec ℕ Global))) → from ≡ first → last + 1 ≡ first + count → IsRangeOf nat_cmp (Included from) (Included last) m r → TakesFirst deref_pair r o t → OnFalse (is_some o) (IsFree held first count)
  free_if_none first count from last r t None start end range step = λ x ge lt.
      held_none x (range.5 step.0 x (not_gt_from_le from x (omega arith), not_gt_from_le x last (omega arith)))
  free_if_none first count from last r t (Some e) start end range step = tt

  pub effective_last : (x : ℕ) (r t : Rows) (k : ℕ) (v : Vec ℕ Global) → IsRangeOf nat_cmp Unbounded (Included x) m r → r ≡ t ++ (k, v) ∷ [] → IsEffective held x k
  effective_last x r t k v range step =
      let here = range.3 (k, v) t step in
      record {
        within = le_from_not_gt k x here.0.1;
        has = ap is_some (held_some k v here.1);
        greatest = λ y le there. ge_from_not_lt k y (range.4 (k, v) t step y (tt, not_gt_from_le y x le) (in_tree y there));
      }

  pub held_last : (x : ℕ) (r t : Rows) (k : ℕ) (v : Vec ℕ Global) → IsRangeOf nat_cmp Unbounded (Included x) m r → r ≡ t ++ (k, v) ∷ [] → get held k ≡ Some v.items
  held_last x r t k v range step = held_some k v (range.3 (k, v) t step).1

  pub none_up_to : (x : ℕ) (r : Rows) → IsRangeOf nat_cmp Unbounded (Included x) m r → r ≡ [] → IsFree held 0 (x + 1)
  none_up_to x r range none = λ y ge lt. held_none y (range.5 none y (tt, not_gt_from_le y x (omega arith)))

  -- what a range of the tree holds is what lies between
  pub between_from_range : (after to : ℕ) (r : Rows) → tree.IsOrdered nat_cmp m → r ≡ entries_between nat_cmp (Excluded after) (Included to) m.entries → rows_of r ≡ between held after to
  between_from_range after to r sorted part =
      ap rows_of part ∙ rows_of-entries_between after to m.entries
      ∙ ap (filter (λ e. nat_lt after e.0 && nat_le e.0 to)) (sym (entries-records_of m.entries sorted) ∙ ap entries is)

  -- all that the tree holds
  pub all_of_tree : tree.IsOrdered nat_cmp m → rows_of m.entries ≡ entries held
  all_of_tree sorted = sym (entries-records_of m.entries sorted) ∙ ap entries is
