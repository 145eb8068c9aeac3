-- The greatest checkpoint at or below an interval.
use Rattle.std.proofs.Common.{◌≡◌, ◌≢◌, inl, inr, ℕ, pos, List, [], ◌∷◌, map, codes, take, Bool, true, false, cond, nat_le, ◌++◌, ◌<◌, ◌≤◌, Some, None, is_some, refl, sym, ap, subst, ◌∙◌, arith}
use Rattle.sqlite.specs.declared.types.Value.TheVariants.{Null, Int}
use Rattle.sqlite.specs.Order.{Row, value_cmp}
use Rattle.sqlite.specs.Term.{Term, lit, col, op2, holds}
use Rattle.sqlite_sql.specs.declared.ops.BinaryOp.TheVariants.{Compare}
use Rattle.sqlite_sql.specs.declared.ops.CompareOp.TheVariants.{Le}
use Rattle.sqlite.specs.Collation.TheVariants.{Binary}
use Rattle.sqlite_value.proofs.OrderLemmas.{value_cmp-Int}
use Rattle.std.specs.Ordering.{nat_cmp, eq_by_cmp}
use Rattle.std.specs.List.{list_all, filter, AllByRecursion}
use Rattle.std.proofs.lemmas.Bool.{both_ways}
use Rattle.std.proofs.lemmas.Bool.Decides.{nat_tests}
use Rattle.sqlite.specs.Query.{Query, inner, end, IsAnswer, output, output_cmp, Output}
use Rattle.sqlite.specs.Program.{overlay}
use Rattle.sqlite_trees.specs.Tree.{IsAscending}
use Rattle.sqlite_keyed.proofs.SortLemmas.{sorted_unique}
use Rattle.sqlite_sql.proofs.QueryLemmas.{output_cmp_total}
use Rattle.sqlite_keyed.proofs.ListLemmas.{map-map, ascending-map, ascending_weaker, ascending-filter, ascending-append, all-append, all-filter, all_both, all_weaker}
use Rattle.std.specs.List.Sorted.{IsPermutation}
use Rattle.std.proofs.lemmas.List.Sorted.{IsPermutation-map, IsPermutation-refl, IsPermutation-cons, IsPermutation-trans, IsPermutation-to_front}
use Rattle.std.specs.declared.cmp.Ordering.TheVariants.{Less}
use Rattle.sqlite.specs.Command.TheVariants.{Select}
use Rattle.sqlite_tied.specs.Compute.{everything}
use Rattle.sqlite.specs.Listing.{understood, reads_listing}
use Rattle.sqlite.specs.State.{State, Shown}
use Rattle.sqlite.proofs.Callers.{IsPlain, command_of, reads_as}
use Rattle.std.specs.FinMap.{find, get, entries, get-entries}
use Rattle.om_stable.specs.Content.{Records, Content}
use Rattle.om_tables.specs.Tables.{store_schema, stored_row}
use Rattle.om_tables.specs.steps.Halfway.{shown}
use Rattle.om_tables.specs.Store.{Holds}
use Rattle.om_tables.specs.steps.Statements.{ShowsEffective}
use Rattle.om_tables.proofs.QueryLemmas.{up_to, and_true, matched, entries_rise, tied_here}

abbrev Entry : Type 0
Entry = ℕ × List ℕ

-- ---- a list from its end
abbrev turned : {X : Type 0} → List X → List X
turned [] = []
turned (x ∷ xs) = turned xs ++ x ∷ []

turned_permutes : {X : Type 0} (xs : List X) → IsPermutation (turned xs) xs
turned_permutes [] = IsPermutation-refl []
turned_permutes (x ∷ xs) = IsPermutation-trans _ _ _ (IsPermutation-to_front (turned xs) x) (IsPermutation-cons x _ _ (turned_permutes xs))

all_turned : {X : Type 0} (P : X → Type 0) (xs : List X) → AllByRecursion P xs → AllByRecursion P (turned xs)
all_turned P [] h = tt
all_turned P (x ∷ xs) h = all-append P (turned xs) (x ∷ []) (all_turned P xs h.1) (h.0, tt)

all_front : {X : Type 0} (P : X → Type 0) (xs ys : List X) → AllByRecursion P (xs ++ ys) → AllByRecursion P xs × AllByRecursion P ys
all_front P [] ys h = (tt, h)
all_front P (x ∷ xs) ys h = let rest = all_front P xs ys h.1 in ((h.0, rest.0), rest.1)

all_unturned : {X : Type 0} (P : X → Type 0) (xs : List X) → AllByRecursion P (turned xs) → AllByRecursion P xs
all_unturned P [] h = tt
all_unturned P (x ∷ xs) h = let parts = all_front P (turned xs) (x ∷ []) h in (parts.1.0, all_unturned P xs parts.0)

falls : (xs : List Entry) → IsAscending (λ (x y : Entry). x.0 < y.0) xs → IsAscending (λ (x y : Entry). y.0 < x.0) (turned xs)
falls [] up = tt
falls (x ∷ xs) up = ascending-append (λ (x y : Entry). y.0 < x.0) (turned xs) (x ∷ []) (falls xs up.1) (tt, tt)
    (all_weaker (λ (y : Entry). x.0 < y.0) (λ (y : Entry). AllByRecursion (λ (z : Entry). z.0 < y.0) (x ∷ [])) (λ y h. (h, tt)) (turned xs) (all_turned (λ (y : Entry). x.0 < y.0) xs up.0))

-- ---- entries that are found
apart : (x y : ℕ) → x < y → eq_by_cmp nat_cmp y x ≡ false
apart x y h = grind (arith, nat_tests)

untied : (x y : ℕ) → x ≢ y → eq_by_cmp nat_cmp y x ≡ false
untied x y h = grind (arith, nat_tests)

all_found : (es : List Entry) → IsAscending (λ (x y : Entry). x.0 < y.0) es → AllByRecursion (λ (f : Entry). find nat_cmp f.0 es ≡ Some f.1) es
all_found [] up = tt
all_found (e ∷ es) up = (
  rw (tied_here e.0) refl,
  all_both (λ (f : Entry). e.0 < f.0) (λ (f : Entry). find nat_cmp f.0 es ≡ Some f.1) (λ (f : Entry). find nat_cmp f.0 (e ∷ es) ≡ Some f.1) (λ f h k. rw (apart e.0 f.0 h) k) es up.0 (all_found es up.1),
)

all_pass : (p : ℕ → Bool) (es : List Entry) → AllByRecursion (λ (f : Entry). p f.0 ≡ true) (filter (λ e. p e.0) es)
all_pass p [] = tt
all_pass p (e ∷ es) = go (p e.0) refl (all_pass p es)
  where
    go : (b : Bool) → p e.0 ≡ b → AllByRecursion (λ (f : Entry). p f.0 ≡ true) (filter (λ e. p e.0) es) → AllByRecursion (λ (f : Entry). p f.0 ≡ true) (cond b (e ∷ filter (λ e. p e.0) es) (filter (λ e. p e.0) es))
    go true is rest = (is, rest)
    go false is rest = rest

-- an interval that passes and is that of no entry which passes has none
unlisted : (p : ℕ → Bool) (y : ℕ) → p y ≡ true → (es : List Entry) → AllByRecursion (λ (f : Entry). f.0 ≢ y) (filter (λ e. p e.0) es) → find nat_cmp y es ≡ None
unlisted p y passes [] h = refl
unlisted p y passes (e ∷ es) h = go (λ h. unlisted p y passes es h) (p e.0) refl h
  where
    go : (AllByRecursion (λ (f : Entry). f.0 ≢ y) (filter (λ e. p e.0) es) → find nat_cmp y es ≡ None) → (b : Bool) → p e.0 ≡ b
        → AllByRecursion (λ (f : Entry). f.0 ≢ y) (cond b (e ∷ filter (λ e. p e.0) es) (filter (λ e. p e.0) es)) → cond (eq_by_cmp nat_cmp y e.0) (Some e.1) (find nat_cmp y es) ≡ None
    go rest true is h = rw (untied e.0 y h.0) (rest h.1)
    go rest false is h = rw (untied e.0 y (λ same. both_ways (p y) (ap p (sym same) ∙ is) passes)) (rest h)

-- ---- the query
abbrev low : List Term
low = op2 (Compare Le Binary) (col 1 0) (col 0 0) ∷ []

abbrev query : Query
query = record {
  from = inner 1 end;
  filter = low;
  group = None;
  project = col 1 0 ∷ col 1 2 ∷ [];
  distinct = false;
  collations = [];
  order = (col 1 0, record { collation = Binary; descending = true }) ∷ [];
  limit = lit (Int (pos 1));
  offset = lit (Int (pos 0));
}

abbrev pub effective_text : List ℕ
effective_text = codes "SELECT x, body FROM checkpoints WHERE x <= ?1 ORDER BY x DESC LIMIT 1"

effective_is : (command_of (understood store_schema effective_text) ≡ Select (record { lets = []; body = query }) (codes "x" ∷ codes "body" ∷ [])) × (reads_listing store_schema effective_text ≡ false)
unfolding understood everything
effective_is = (refl, refl)

pub effective_plain : IsPlain (understood store_schema effective_text)
unfolding understood everything
effective_plain = (refl, refl)

abbrev one : ℕ → Row
one x = Int (pos x) ∷ []

abbrev is_low : ℕ → ℕ → Bool
is_low a x = nat_le x a

low_is : (a : ℕ) (e : Entry) → list_all (holds (one a ∷ stored_row e ∷ [])) low ≡ is_low a e.0
low_is a e = rw (up_to e.0 a) (and_true (nat_le e.0 a))

above : (x y : ℕ) → y < x → value_cmp (Int (pos y)) (Int (pos x)) ≡ Less
above x y h = rw value_cmp-Int (grind (arith, nat_tests))

abbrev out : Entry → Output
out e = (Int (pos e.0) ∷ [], shown e)

sinks : (fs : List Entry) → IsAscending (λ (x y : Entry). y.0 < x.0) fs → IsAscending (λ x y. output_cmp query x y ≡ Less) (map out fs)
sinks fs down = ascending-map (λ x y. output_cmp query x y ≡ Less) out fs (ascending_weaker (λ (x y : Entry). y.0 < x.0) (λ x y. output_cmp query (out x) (out y) ≡ Less) (λ x y h. rw (above x.0 y.0 h) refl) fs down)

le_of : (a x : ℕ) → is_low a x ≡ true → x ≤ a
le_of a x h = grind (arith, nat_tests)

low_of : (a x : ℕ) → x ≤ a → is_low a x ≡ true
low_of a x h = grind (arith, nat_tests)

at_most : (e y : ℕ) → (e < y → ⊥) → y ≤ e
at_most e y h = Rattle.std.proofs.Math.Logic.⊎_elim (λ lt. absurd (h lt)) (λ le. le) (Rattle.std.proofs.lemmas.Bool.cases_lt e y)

-- by the entries at or below x, from the last on
picks : (held : Records) (x : ℕ) (rows : List Row) (ts : List Entry) → turned (filter (λ e. is_low x e.0) (entries held)) ≡ ts → rows ≡ take 1 (map shown ts) → ShowsEffective held x rows
picks held x rows [] is shows = inl (
  shows,
  λ y ge lt. get-entries held y ∙ unlisted (is_low x) y (low_of x y (omega arith)) (entries held)
      (all_unturned (λ (f : Entry). f.0 ≢ y) (filter (λ e. is_low x e.0) (entries held)) (subst (AllByRecursion (λ (f : Entry). f.0 ≢ y)) (sym is) tt)),
)
picks held x rows (e ∷ ts) is shows =
    let fs = filter (λ e. is_low x e.0) (entries held) in
    let down : IsAscending (λ (x y : Entry). y.0 < x.0) (e ∷ ts) = subst (IsAscending (λ (x y : Entry). y.0 < x.0)) is (falls fs (ascending-filter _ (λ e. is_low x e.0) (entries held) (entries_rise held))) in
    let found : AllByRecursion (λ (f : Entry). find nat_cmp f.0 (entries held) ≡ Some f.1) (e ∷ ts) = subst (AllByRecursion (λ (f : Entry). find nat_cmp f.0 (entries held) ≡ Some f.1)) is
    (all_turned (λ (f : Entry). find nat_cmp f.0 (entries held) ≡ Some f.1) fs (all-filter (λ (f : Entry). find nat_cmp f.0 (entries held) ≡ Some f.1) (λ e. is_low x e.0) (entries held) (all_found (entries held) (entries_rise held)))) in
    let passes : AllByRecursion (λ (f : Entry). is_low x f.0 ≡ true) (e ∷ ts) = subst (AllByRecursion (λ (f : Entry). is_low x f.0 ≡ true)) is (all_turned (λ (f : Entry). is_low x f.0 ≡ true) fs (all_pass (is_low x) (entries held))) in
    let here : get held e.0 ≡ Some e.1 = get-entries held e.0 ∙ found.0 in
    inr (
      e,
      shows,
      record {
        within = le_of x e.0 passes.0;
        has = ap is_some here;
        greatest = λ y le there. at_most e.0 y (λ lt. both_ways (is_some (get held y)) (ap is_some (get-entries held y ∙ unlisted (is_low x) y (low_of x y le) (entries held)
            (all_unturned (λ (f : Entry). f.0 ≢ y) fs (subst (AllByRecursion (λ (f : Entry). f.0 ≢ y)) (sym is) (
              (λ same. let bad : e.0 ≡ y = same in omega (arith, bad)),
              all_weaker (λ (f : Entry). f.0 < e.0) (λ (f : Entry). f.0 ≢ y) (λ f below same. let bad : f.0 ≡ y = same in omega (arith, bad)) ts down.0,
            ))))) there);
      },
      here,
    )

pub effective : (old new : State) (c : Content) (x : ℕ) (rows : List Row) → Holds old.now c → Shown effective_text (one x) old new rows → ShowsEffective c.checkpoints x rows
effective old new c x rows has h =
    let got = reads_as effective_text (one x) old new store_schema has.schema _ effective_is.0 effective_plain effective_is.1 rows h in
    let answer : IsAnswer query (overlay old.now.trees []) (one x) rows = got.answer Null in
    let es = entries c.checkpoints in
    let fs = filter (λ e. is_low x e.0) es in
    let staged : answer.staged ≡ map (λ e. one x ∷ stored_row e ∷ []) fs = answer.grouped ∙ rw has.checkpoints (matched low (one x) (is_low x) (low_is x) es) in
    let kept : answer.kept ≡ map out fs = answer.distinct ∙ ap (map (output query)) staged ∙ map-map (output query) (λ e. one x ∷ stored_row e ∷ []) fs in
    let same : IsPermutation (map out (turned fs)) answer.ordered = IsPermutation-trans _ _ _ (IsPermutation-map out (turned fs) fs (turned_permutes fs)) (subst (λ k. IsPermutation k answer.ordered) kept answer.same) in
    let ordered : answer.ordered ≡ map out (turned fs) = sorted_unique (output_cmp query) (output_cmp_total query) (map out (turned fs)) answer.ordered (sinks (turned fs) (falls fs (ascending-filter _ (λ e. is_low x e.0) es (entries_rise c.checkpoints)))) same answer.sorted in
    picks c.checkpoints x rows (turned fs) refl (answer.shown ∙ ap (λ (os : List Output). take 1 (map (λ (o : Output). o.1) os)) ordered ∙ ap (take 1) (map-map (λ (o : Output). o.1) out (turned fs)))
