-- What the queries answer.
use Rattle.std.specs.Prelude.{T}
use Rattle.std.proofs.Common.{◌≡◌, inl, inr, ℕ, pos, negsuc, List, [], ◌∷◌, map, codes, length, take, Bool, true, false, cond, nat_lt, nat_le, ◌&&◌, ◌++◌, ◌<◌, ◌≤◌, Some, None, IsSome, is_some, refl, sym, ap, subst, ◌∙◌, arith}
use Rattle.sqlite.specs.declared.types.Value.TheVariants.{Null, Int}
use Rattle.sqlite.specs.Order.{Row, value_cmp}
use Rattle.sqlite.specs.Term.{Term, lit, col, op2, holds}
use Rattle.sqlite_sql.specs.declared.ops.BinaryOp.TheVariants.{Compare}
use Rattle.sqlite_sql.specs.declared.ops.CompareOp.TheVariants.{Gt, Ge, Lt, Le}
use Rattle.sqlite.specs.Collation.TheVariants.{Binary}
use Rattle.sqlite.specs.Ops.{binary, is_true}
use Rattle.sqlite_value.specs.Keys.{ascending}
use Rattle.sqlite_value.proofs.OrderLemmas.{value_cmp-Int}
use Rattle.std.specs.Ordering.{nat_cmp, eq_by_cmp, is_lt}
use Rattle.std.specs.List.{list_all, flat_map, filter, AllByRecursion}
use Rattle.std.proofs.lemmas.Bool.{both_ways}
use Rattle.std.proofs.lemmas.Bool.Decides.{nat_tests}
use Rattle.sqlite.specs.Query.{Query, inner, end, IsAnswer, output, output_cmp, Output}
use Rattle.sqlite.specs.Program.{overlay}
use Rattle.sqlite_trees.specs.Tree.{IsAscending, Trees}
use Rattle.sqlite_keyed.proofs.SortLemmas.{sorted_unique}
use Rattle.sqlite_sql.proofs.QueryLemmas.{output_cmp_total}
use Rattle.sqlite_keyed.proofs.ListLemmas.{map-map, ascending-map, ascending_weaker, ascending-filter}
use Rattle.std.specs.List.Sorted.{IsPermutation}
use Rattle.std.proofs.lemmas.List.Sorted.{length_permutation}
use Rattle.std.proofs.lemmas.List.{length-map}
use Rattle.std.specs.declared.cmp.Ordering.TheVariants.{Less}
use Rattle.sqlite.specs.Command.TheVariants.{Select}
use Rattle.sqlite_tied.specs.Compute.{everything}
use Rattle.sqlite.specs.Listing.{understood, reads_listing}
use Rattle.sqlite.specs.State.{State, Shown}
use Rattle.sqlite.proofs.Callers.{IsPlain, command_of, reads_as}
use Rattle.std.specs.FinMap.{find, entries, entries_sorted, get-entries, is_sorted}
use Rattle.std.specs.FinMap.Entries.{below_all}
use Rattle.om_stable.specs.Content.{Records, Content, between}
use Rattle.om_tables.specs.Tables.{store_schema, stored_row}
use Rattle.om_tables.specs.steps.Halfway.{shown}
use Rattle.om_tables.specs.Store.{rows_for, Holds}
use Rattle.om_tables.specs.steps.Statements.{ShowsAny}

-- ---- comparisons of an interval with a parameter
pub over : (x a : ℕ) → is_true (binary (Compare Gt Binary) (Int (pos x)) (Int (pos a))) ≡ nat_lt a x
unfolding binary
over x a = rw value_cmp-Int (grind (arith, nat_tests))

pub from_on : (x a : ℕ) → is_true (binary (Compare Ge Binary) (Int (pos x)) (Int (pos a))) ≡ nat_le a x
unfolding binary
from_on x a = rw value_cmp-Int (grind (arith, nat_tests))

pub up_to : (x a : ℕ) → is_true (binary (Compare Le Binary) (Int (pos x)) (Int (pos a))) ≡ nat_le x a
unfolding binary
up_to x a = rw value_cmp-Int (grind (arith, nat_tests))

pub under : (x a : ℕ) → is_true (binary (Compare Lt Binary) (Int (pos x)) (Int (pos a))) ≡ nat_lt x a
unfolding binary
under x a = rw value_cmp-Int (grind (arith, nat_tests))

pub and_true : (b : Bool) → (b && true) ≡ b
and_true true = refl
and_true false = refl

-- ---- the rows of one table that pass a test of their intervals
module _ (terms : List Term) (params : Row) (p : ℕ → Bool) (passes : (e : ℕ × List ℕ) → list_all (holds (params ∷ stored_row e ∷ [])) terms ≡ p e.0) where
  pub matched : (es : List (ℕ × List ℕ)) → flat_map (λ r. cond (list_all (holds (params ∷ r ∷ [])) terms) ((params ∷ r ∷ []) ∷ []) []) (map stored_row es) ≡ map (λ e. params ∷ stored_row e ∷ []) (filter (λ e. p e.0) es)
  matched [] = refl
  matched (e ∷ es) = rw (passes e, matched es) (split (p e.0))
    where
      split : (t : Bool) → cond t ((params ∷ stored_row e ∷ []) ∷ []) [] ++ map (λ e. params ∷ stored_row e ∷ []) (filter (λ e. p e.0) es) ≡ map (λ e. params ∷ stored_row e ∷ []) (cond t (e ∷ filter (λ e. p e.0) es) (filter (λ e. p e.0) es))
      split true = refl
      split false = refl

-- ---- records that pass a test, and the map
pub tied_here : (x : ℕ) → eq_by_cmp nat_cmp x x ≡ true
tied_here x = grind (arith, nat_tests)

pub none_passes : (p : ℕ → Bool) (es : List (ℕ × List ℕ)) → filter (λ e. p e.0) es ≡ [] → (x : ℕ) → p x ≡ true → find nat_cmp x es ≡ None
none_passes p [] none x h = refl
none_passes p (e ∷ es) none x h = go (λ none. none_passes p es none x h) (p e.0) refl none
  where
    apart_from : (b : Bool) → eq_by_cmp nat_cmp x e.0 ≡ b → p e.0 ≡ false → b ≡ false
    apart_from true tie is = absurd (let same : x ≡ e.0 = grind (arith, nat_tests) in both_ways (p x) (ap p same ∙ is) h)
    apart_from false tie is = refl

    go : (filter (λ e. p e.0) es ≡ [] → find nat_cmp x es ≡ None) → (b : Bool) → p e.0 ≡ b → cond b (e ∷ filter (λ e. p e.0) es) (filter (λ e. p e.0) es) ≡ [] → cond (eq_by_cmp nat_cmp x e.0) (Some e.1) (find nat_cmp x es) ≡ None
    go rest true is none = absurd cc
    go rest false is none = rw (apart_from _ refl is) (rest none)

one_passes : (p : ℕ → Bool) (es : List (ℕ × List ℕ)) (e : ℕ × List ℕ) (more : List (ℕ × List ℕ)) → filter (λ e. p e.0) es ≡ e ∷ more → (p e.0 ≡ true) × IsSome (find nat_cmp e.0 es)
one_passes p [] e more is = absurd cc
one_passes p (f ∷ es) e more is = go (λ is. one_passes p es e more is) (p f.0) refl is
  where
    either : (t : Bool) → IsSome (find nat_cmp e.0 es) → IsSome (cond t (Some f.1) (find nat_cmp e.0 es))
    either true h = refl
    either false h = h

    go : (filter (λ e. p e.0) es ≡ e ∷ more → (p e.0 ≡ true) × IsSome (find nat_cmp e.0 es)) → (b : Bool) → p f.0 ≡ b → cond b (f ∷ filter (λ e. p e.0) es) (filter (λ e. p e.0) es) ≡ e ∷ more
        → (p e.0 ≡ true) × IsSome (cond (eq_by_cmp nat_cmp e.0 f.0) (Some f.1) (find nat_cmp e.0 es))
    go rest true h is =
        let same : f ≡ e = cc in
        let tie : eq_by_cmp nat_cmp e.0 f.0 ≡ true = ap (λ (g : ℕ × List ℕ). eq_by_cmp nat_cmp e.0 g.0) same ∙ tied_here e.0 in
        (ap (λ (g : ℕ × List ℕ). p g.0) (sym same) ∙ h, rw tie refl)
    go rest false h is = let it = rest is in (it.0, either (eq_by_cmp nat_cmp e.0 f.0) it.1)

-- ---- whether one of some intervals has a record
abbrev from_to : ℕ → ℕ → ℕ → Bool
from_to a b x = nat_le a x && nat_le x b

decides_by : (held : Records) (first last : ℕ) (rows : List Row) → (fs : List (ℕ × List ℕ)) → filter (λ e. from_to first last e.0) (entries held) ≡ fs
    → (os : List Row) → length os ≡ length fs → rows ≡ take 1 os → ShowsAny held first last rows
decides_by held first last rows [] none [] same is = inl (is, λ x ge le. get-entries held x ∙ none_passes (from_to first last) (entries held) none x (grind (arith, nat_tests)))
decides_by held first last rows [] none (o ∷ os) same is = absurd (omega (arith, same))
decides_by held first last rows (f ∷ fs) some [] same is = absurd (omega (arith, same))
decides_by held first last rows (f ∷ fs) some (o ∷ os) same is =
    let it = one_passes (from_to first last) (entries held) f fs some in
    inr (o, [], is, f.0, within_low f.0 it.0, within_high f.0 it.0, ap is_some (get-entries held f.0) ∙ it.1)
  where
    within_low : (x : ℕ) → from_to first last x ≡ true → first ≤ x
    within_low x h = grind (arith, nat_tests)

    within_high : (x : ℕ) → from_to first last x ≡ true → x ≤ last
    within_high x h = grind (arith, nat_tests)

abbrev within : List Term
within = op2 (Compare Ge Binary) (col 1 0) (col 0 0) ∷ op2 (Compare Le Binary) (col 1 0) (col 0 1) ∷ []

abbrev any_query : ℕ → Query
any_query t = record {
  from = inner t end;
  filter = within;
  group = None;
  project = col 1 0 ∷ [];
  distinct = false;
  collations = [];
  order = [];
  limit = lit (Int (pos 1));
  offset = lit (Int (pos 0));
}

abbrev pub two : ℕ → ℕ → Row
two a b = Int (pos a) ∷ Int (pos b) ∷ []

within_is : (a b : ℕ) (e : ℕ × List ℕ) → list_all (holds (two a b ∷ stored_row e ∷ [])) within ≡ from_to a b e.0
within_is a b e = rw (from_on e.0 a, up_to e.0 b) (ap (λ t. nat_le a e.0 && t) (and_true (nat_le e.0 b)))

abbrev pub any_receipt_text : List ℕ
any_receipt_text = codes "SELECT x FROM receipts WHERE x >= ?1 AND x <= ?2 LIMIT 1"

abbrev pub any_checkpoint_text : List ℕ
any_checkpoint_text = codes "SELECT x FROM checkpoints WHERE x >= ?1 AND x <= ?2 LIMIT 1"

any_receipt_is : (command_of (understood store_schema any_receipt_text) ≡ Select (record { lets = []; body = any_query 0 }) (codes "x" ∷ [])) × (reads_listing store_schema any_receipt_text ≡ false)
unfolding understood everything
any_receipt_is = (refl, refl)

pub any_receipt_plain : IsPlain (understood store_schema any_receipt_text)
unfolding understood everything
any_receipt_plain = (refl, refl)

any_checkpoint_is : (command_of (understood store_schema any_checkpoint_text) ≡ Select (record { lets = []; body = any_query 1 }) (codes "x" ∷ [])) × (reads_listing store_schema any_checkpoint_text ≡ false)
unfolding understood everything
any_checkpoint_is = (refl, refl)

pub any_checkpoint_plain : IsPlain (understood store_schema any_checkpoint_text)
unfolding understood everything
any_checkpoint_plain = (refl, refl)

answers_any : (t : ℕ) (db : Trees) (held : Records) (first last : ℕ) (rows : List Row) → overlay db [] t ≡ rows_for held → IsAnswer (any_query t) (overlay db []) (two first last) rows → ShowsAny held first last rows
answers_any t db held first last rows are answer =
    let q = any_query t in
    let fs = filter (λ e. from_to first last e.0) (entries held) in
    let staged : answer.staged ≡ map (λ e. two first last ∷ stored_row e ∷ []) fs = answer.grouped ∙ rw are (matched within (two first last) (from_to first last) (within_is first last) (entries held)) in
    let kept : answer.kept ≡ map (λ e. output q (two first last ∷ stored_row e ∷ [])) fs = answer.distinct ∙ ap (map (output q)) staged ∙ map-map (output q) (λ e. two first last ∷ stored_row e ∷ []) fs in
    let os = map (λ (o : Output). o.1) answer.ordered in
    let size : length os ≡ length fs = length-map answer.ordered (λ (o : Output). o.1) ∙ length_permutation answer.kept answer.ordered answer.same ∙ ap length kept ∙ length-map fs (λ e. output q (two first last ∷ stored_row e ∷ [])) in
    decides_by held first last rows fs refl os size answer.shown

pub any_receipt : (old new : State) (c : Content) (first last : ℕ) (rows : List Row) → Holds old.now c
    → Shown any_receipt_text (two first last) old new rows → ShowsAny c.receipts first last rows
any_receipt old new c first last rows h shown =
    answers_any 0 old.now.trees c.receipts first last rows h.receipts ((reads_as any_receipt_text (two first last) old new store_schema h.schema _ any_receipt_is.0 any_receipt_plain any_receipt_is.1 rows shown).answer Null)

pub any_checkpoint : (old new : State) (c : Content) (first last : ℕ) (rows : List Row) → Holds old.now c
    → Shown any_checkpoint_text (two first last) old new rows → ShowsAny c.checkpoints first last rows
any_checkpoint old new c first last rows h shown =
    answers_any 1 old.now.trees c.checkpoints first last rows h.checkpoints ((reads_as any_checkpoint_text (two first last) old new store_schema h.schema _ any_checkpoint_is.0 any_checkpoint_plain any_checkpoint_is.1 rows shown).answer Null)

-- ---- the receipts of a range, in order
abbrev ranged : List Term
ranged = op2 (Compare Gt Binary) (col 1 0) (col 0 0) ∷ op2 (Compare Le Binary) (col 1 0) (col 0 1) ∷ []

abbrev range_query : Query
range_query = record {
  from = inner 0 end;
  filter = ranged;
  group = None;
  project = col 1 0 ∷ col 1 2 ∷ [];
  distinct = false;
  collations = [];
  order = (col 1 0, ascending Binary) ∷ [];
  limit = lit (Int (negsuc 0));
  offset = lit (Int (pos 0));
}

abbrev is_ranged : ℕ → ℕ → ℕ → Bool
is_ranged a b x = nat_lt a x && nat_le x b

ranged_is : (a b : ℕ) (e : ℕ × List ℕ) → list_all (holds (two a b ∷ stored_row e ∷ [])) ranged ≡ is_ranged a b e.0
ranged_is a b e = rw (over e.0 a, up_to e.0 b) (ap (λ t. nat_lt a e.0 && t) (and_true (nat_le e.0 b)))

abbrev pub range_text : List ℕ
range_text = codes "SELECT x, body FROM receipts WHERE x > ?1 AND x <= ?2 ORDER BY x"

range_is : (command_of (understood store_schema range_text) ≡ Select (record { lets = []; body = range_query }) (codes "x" ∷ codes "body" ∷ [])) × (reads_listing store_schema range_text ≡ false)
unfolding understood everything
range_is = (refl, refl)

pub range_plain : IsPlain (understood store_schema range_text)
unfolding understood everything
range_plain = (refl, refl)

-- entries rise
true_of : (b : Bool) → T b → b ≡ true
true_of true h = refl
true_of false h = absurd h

left_of : (a b : Bool) → (a && b) ≡ true → a ≡ true
left_of true b h = refl
left_of false b h = h

right_of : (a b : Bool) → (a && b) ≡ true → b ≡ true
right_of true b h = h
right_of false b h = absurd (both_ways false refl h)

first_lt : (x y : ℕ) → is_lt (nat_cmp x y) ≡ true → x < y
first_lt x y h = grind (arith, nat_tests)

below_of : (x : ℕ) (es : List (ℕ × List ℕ)) → below_all nat_cmp x es ≡ true → AllByRecursion (λ (e : ℕ × List ℕ). x < e.0) es
below_of x [] h = tt
below_of x (e ∷ es) h = (first_lt x e.0 (left_of _ _ h), below_of x es (right_of _ _ h))

rising : (es : List (ℕ × List ℕ)) → is_sorted nat_cmp es ≡ true → IsAscending (λ (x y : ℕ × List ℕ). x.0 < y.0) es
rising [] h = tt
rising (e ∷ es) h = (below_of e.0 es (left_of _ _ h), rising es (right_of _ _ h))

pub entries_rise : (m : Records) → IsAscending (λ (x y : ℕ × List ℕ). x.0 < y.0) (entries m)
entries_rise m = rising (entries m) (true_of _ (entries_sorted m))

below : (x y : ℕ) → x < y → value_cmp (Int (pos x)) (Int (pos y)) ≡ Less
below x y h = rw value_cmp-Int (grind (arith, nat_tests))

-- what is sorted by, and what is shown
abbrev out : ℕ × List ℕ → Output
out e = (Int (pos e.0) ∷ [], shown e)

rises : (fs : List (ℕ × List ℕ)) → IsAscending (λ (x y : ℕ × List ℕ). x.0 < y.0) fs → IsAscending (λ x y. output_cmp range_query x y ≡ Less) (map out fs)
rises fs up = ascending-map (λ x y. output_cmp range_query x y ≡ Less) out fs (ascending_weaker (λ (x y : ℕ × List ℕ). x.0 < y.0) (λ x y. output_cmp range_query (out x) (out y) ≡ Less) (λ x y h. rw (below x.0 y.0 h) refl) fs up)

pub ranges : (old new : State) (c : Content) (a b : ℕ) (rows : List Row) → Holds old.now c → Shown range_text (two a b) old new rows → rows ≡ map shown (between c.receipts a b)
ranges old new c a b rows has h =
    let got = reads_as range_text (two a b) old new store_schema has.schema _ range_is.0 range_plain range_is.1 rows h in
    let answer : IsAnswer range_query (overlay old.now.trees []) (two a b) rows = got.answer Null in
    let es = entries c.receipts in
    let fs = filter (λ e. is_ranged a b e.0) es in
    let staged : answer.staged ≡ map (λ e. two a b ∷ stored_row e ∷ []) fs = answer.grouped ∙ rw has.receipts (matched ranged (two a b) (is_ranged a b) (ranged_is a b) es) in
    let kept : answer.kept ≡ map out fs = answer.distinct ∙ ap (map (output range_query)) staged ∙ map-map (output range_query) (λ e. two a b ∷ stored_row e ∷ []) fs in
    let ordered : answer.ordered ≡ map out fs = sorted_unique (output_cmp range_query) (output_cmp_total range_query) (map out fs) answer.ordered (rises fs (ascending-filter _ (λ e. is_ranged a b e.0) es (entries_rise c.receipts))) (subst (λ k. IsPermutation k answer.ordered) kept answer.same) answer.sorted in
    answer.shown ∙ ap (λ (os : List Output). map (λ (o : Output). o.1) os) ordered ∙ map-map (λ (o : Output). o.1) out fs
