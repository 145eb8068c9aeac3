-- What DELETE does.
use Rattle.std.proofs.Common.{◌≡◌, ℕ, pos, negsuc, List, [], ◌∷◌, map, codes, Bool, true, false, cond, not, nat_lt, ◌||◌, ℤ, subst₂, fold, None, Ok, Result, refl, sym, ap, subst, ◌∙◌, arith, nat_le, ◌<◌}
use Rattle.sqlite.specs.declared.types.Value.TheVariants.{Null, Int}
use Rattle.sqlite.specs.Order.{Row}
use Rattle.sqlite.specs.Term.{Term, lit, col, op2, holds}
use Rattle.sqlite_value.proofs.OrderLemmas.{value_cmp-Int}
use Rattle.std.specs.List.{list_all, list_any, filter, AllByRecursion}
use Rattle.std.proofs.lemmas.Bool.Decides.{nat_tests}
use Rattle.sqlite.specs.Tree.{Trees, rowid}
use Rattle.sqlite.specs.Program.{overlay}
use Rattle.std.specs.List.Sorted.{IsPermutation}
use Rattle.std.proofs.lemmas.List.Sorted.{IsPermutation-map, list_any-IsPermutation}
use Rattle.sqlite_rules.specs.Calls.{ids_of}
use Rattle.sqlite_rules.specs.Edit.{id_in, without_all}
use Rattle.sqlite_trees.specs.Tree.{has_rowid}
use Rattle.std.specs.Ordering.{int_eq, is_eq, nat_cmp}
use Rattle.sqlite_keyed.proofs.ListLemmas.{map-map, filter-map, filter_same, filter_all, ascending_weaker}
use Rattle.sqlite_keyed.proofs.WriteLemmas.{removes_delete}
use Rattle.sqlite_keyed.specs.Lists.{without_key, delete_where}
use Rattle.sqlite_keyed.specs.Keyed.{IsKeyedBy}
use Rattle.sqlite_sql.specs.declared.ops.BinaryOp.TheVariants.{Compare}
use Rattle.sqlite_sql.specs.declared.ops.CompareOp.TheVariants.{Gt, Lt, Le}
use Rattle.sqlite.specs.Collation.TheVariants.{Binary}
use Rattle.sqlite.specs.Query.{Query, inner, end, IsAnswer, output, Output}
use Rattle.sqlite.specs.Command.TheVariants.{Delete}
use Rattle.sqlite_tied.specs.Compute.{everything}
use Rattle.sqlite.specs.Listing.{understood}
use Rattle.sqlite.proofs.Callers.{IsPlain, command_of, statement_of, runs_as, one_step}
use Rattle.sqlite.specs.Edit.{edit_of, edited}
use Rattle.sqlite.specs.Rowids.TheVariants.{Given}
use Rattle.sqlite.specs.Does.{Tally, Does}
use Rattle.sqlite.specs.Rows.{Written}
use Rattle.sqlite.specs.Effect.{Database}
use Rattle.sqlite.specs.State.{ExecutesInside, State, mode_of}
use Rattle.om_tables.proofs.CreateLemmas.{went, same_value}
use Rattle.om_tables.specs.Tables.{receipts, checkpoints, store_schema, stored_row}
use Rattle.om_tables.specs.Store.{Holds, rows_for}
use Rattle.om_tables.specs.steps.Statements.{GoesOn, Goes, Performs}
use Rattle.om_tables.proofs.InsertLemmas.{keeps_then}
use Rattle.om_tables.specs.declared.refusal.Refusal.{Refusal}
use Rattle.om_tables.proofs.QueryLemmas.{over, up_to, under, and_true, matched, entries_rise}
use Rattle.std.specs.Cmp.{nat_cmp_total}
use Rattle.std.specs.FinMap.{entries, entries_sorted, entries-from_sorted, get-from_sorted, get-entries, retain_keys, from_sorted, same_map, nat_cmp-IsAntisymmetric}
use Rattle.std.specs.FinMap.Entries.{is_sorted-where_key, find-where_key}
use Rattle.om_stable.proofs.RecordLemmas.{get-retained}
use Rattle.std.specs.Prelude.{◌<ℤ◌}
use Rattle.sqlite_sql.specs.declared.ops.CompareOp.{CompareOp}
use Rattle.om_stable.specs.Content.{Records, Content}

abbrev key : ℕ × List ℕ → ℤ
key e = pos e.0

abbrev terms : CompareOp → List Term
terms op = op2 (Compare op Binary) (col 1 0) (col 0 0) ∷ []

abbrev query : ℕ → CompareOp → Query
query t op = record {
  from = inner t end;
  filter = terms op;
  group = None;
  project = col 1 0 ∷ [];
  distinct = false;
  collations = [];
  order = [];
  limit = lit (Int (negsuc 0));
  offset = lit (Int (pos 0));
}

abbrev out : ℕ × List ℕ → Output
out e = ([], Int (pos e.0) ∷ [])

abbrev one : ℕ → Row
one a = Int (pos a) ∷ []

-- the rowids that are removed, in some order
ids_are : (t : ℕ) (op : CompareOp) (a : ℕ) (p : ℕ → Bool) → ((e : ℕ × List ℕ) → list_all (holds (one a ∷ stored_row e ∷ [])) (terms op) ≡ p e.0) → (es : List (ℕ × List ℕ)) (db : Trees) (rows : List Row) → overlay db [] t ≡ map stored_row es
    → IsAnswer (query t op) (overlay db []) (one a) rows → IsPermutation (map key (filter (λ e. p e.0) es)) (ids_of rows)
ids_are t op a p passes es db rows are answer =
    let fs = filter (λ e. p e.0) es in
    let staged : answer.staged ≡ map (λ e. one a ∷ stored_row e ∷ []) fs = answer.grouped ∙ rw are (matched (terms op) (one a) p passes es) in
    let kept : answer.kept ≡ map out fs = answer.distinct ∙ ap (map (output (query t op))) staged ∙ map-map (output (query t op)) (λ e. one a ∷ stored_row e ∷ []) fs in
    let same = subst (λ k. IsPermutation k answer.ordered) kept answer.same in
    let ids = IsPermutation-map (λ (o : Output). id_in (rowid o.1)) (map out fs) answer.ordered same in
    subst₂ IsPermutation (map-map (λ (o : Output). id_in (rowid o.1)) out fs) (sym (ap ids_of answer.shown ∙ map-map (λ r. id_in (rowid r)) (λ (o : Output). o.1) answer.ordered)) ids

split_not : {X : Type 0} (x : X) (a b : Bool) (q : X → Bool) (xs ys : List X) → q x ≡ b → filter (λ r. not (q r)) xs ≡ ys → filter (λ r. not (q r)) (cond (not a) (x ∷ xs) xs) ≡ cond (not (a || b)) (x ∷ ys) ys
split_not x true b q xs ys is e = e
split_not x false true q xs ys is e = rw is e
split_not x false false q xs ys is e = rw is (ap (λ l. x ∷ l) e)

both_not : {X : Type 0} (p q : X → Bool) (rows : List X) → filter (λ r. not (q r)) (filter (λ r. not (p r)) rows) ≡ filter (λ r. not (p r || q r)) rows
both_not p q [] = refl
both_not p q (r ∷ rows) = split_not r (p r) (q r) q (filter (λ r. not (p r)) rows) (filter (λ r. not (p r || q r)) rows) refl (both_not p q rows)

-- what is left has none of the rowids
left_is : (ids : List ℤ) (rows : List Row) → without_all rows ids ≡ filter (λ r. not (list_any (λ id. has_rowid id r) ids)) rows
left_is [] rows = sym (filter_all (λ r. true) rows (all_true rows))
  where
    all_true : (rows : List Row) → AllByRecursion (λ r. true ≡ true) rows
    all_true [] = tt
    all_true (r ∷ rows) = (refl, all_true rows)
left_is (id ∷ ids) rows = left_is ids (filter (λ r. not (has_rowid id r)) rows) ∙ both_not (has_rowid id) (λ r. list_any (λ id. has_rowid id r) ids) rows

one_gone : (id : ℤ) (es : List (ℕ × List ℕ)) → filter (λ r. not (has_rowid id r)) (map stored_row es) ≡ map stored_row (without_key key es id)
one_gone id es = filter-map (λ r. not (has_rowid id r)) stored_row es ∙ ap (map stored_row) (filter_same (λ e. not (has_rowid id (stored_row e))) (λ e. not (int_eq (key e) id)) (λ e. ap (λ o. not (is_eq o)) (value_cmp-Int (pos e.0) id)) es)

all_gone : (ids : List ℤ) (es : List (ℕ × List ℕ)) → without_all (map stored_row es) ids ≡ map stored_row (fold (without_key key) es ids)
all_gone [] es = refl
all_gone (id ∷ ids) es = ap (λ rows. without_all rows ids) (one_gone id es) ∙ all_gone ids (without_key key es id)

-- the order of the rowids does not matter
pub gone_are : (gone : ℕ × List ℕ → Bool) (es : List (ℕ × List ℕ)) (ids : List ℤ) → IsKeyedBy key es → IsPermutation (map key (filter (gone) es)) ids → without_all (map stored_row es) ids ≡ map stored_row (delete_where (gone) es)
gone_are gone es ids keyed same =
    let other = map key (filter (gone) es) in
    left_is ids (map stored_row es)
    ∙ filter_same (λ r. not (list_any (λ id. has_rowid id r) ids)) (λ r. not (list_any (λ id. has_rowid id r) other)) (λ r. ap not (sym (list_any-IsPermutation (λ id. has_rowid id r) other ids same))) (map stored_row es)
    ∙ sym (left_is other (map stored_row es)) ∙ all_gone other es ∙ ap (map stored_row) (removes_delete key (gone) es keyed)

-- ---- what is left, as a map
pos_below : (x y : ℕ) → x < y → pos x <ℤ pos y
pos_below x y h = grind (arith, nat_tests)

keyed : (m : Records) → IsKeyedBy key (entries m)
keyed m = ascending_weaker (λ (x y : ℕ × List ℕ). x.0 < y.0) (λ x y. key x <ℤ key y) (λ x y h. pos_below x.0 y.0 h) (entries m) (entries_rise m)

entries_retained : (m : Records) (p : ℕ → Bool) → entries (retain_keys m p) ≡ filter (λ e. p e.0) (entries m)
entries_retained m p =
    let es = entries m in
    let sorted = is_sorted-where_key nat_cmp p es (entries_sorted m) in
    let n : Records = from_sorted (filter (λ e. p e.0) es) in
    let same : n ≡ retain_keys m p = same_map nat_cmp_total nat_cmp-IsAntisymmetric n (retain_keys m p) (λ q.
    get-from_sorted nat_cmp (filter (λ e. p e.0) es) q sorted ∙ find-where_key nat_cmp p q (λ x tied. ap p (sym (nat_cmp-IsAntisymmetric q x tied))) es
    ∙ ap (λ o. cond (p q) o None) (sym (get-entries m q)) ∙ sym (get-retained m p q)) in
    ap entries (sym same) ∙ entries-from_sorted nat_cmp _ sorted

-- ---- the statement
one_not_zero : ◌≡◌ {A = ℕ} 1 0 → ⊥
one_not_zero e = omega arith

zero_not_one : ◌≡◌ {A = ℕ} 0 1 → ⊥
zero_not_one e = omega arith

module _ (op : CompareOp) (text : List ℕ) (is : command_of (understood store_schema text) ≡ Delete 0 (record { lets = []; body = query 0 op })) (plain : IsPlain (understood store_schema text)) (a : ℕ) (p kept : ℕ → Bool)
    (passes : (e : ℕ × List ℕ) → list_all (holds (one a ∷ stored_row e ∷ [])) (terms op) ≡ p e.0) (turns : (x : ℕ) → not (p x) ≡ kept x) where
  removes_receipts : (old new : State) (c : Content) (count : ℕ) → Holds old.now c → ExecutesInside 0 text (one a) old new (Ok count) → GoesOn old new (record c { receipts = retain_keys c.receipts kept })
  removes_receipts old new c count had h =
      let db = old.now.trees in
      let es = entries c.receipts in
      let command = Delete 0 (record { lets = []; body = query 0 op }) in
      let w = runs_as text (one a) old new store_schema had.schema command is plain count h.0 in
      let whole = statement_of text (understood store_schema text) in
      let done = went (subst (λ s. Does old.step_limit (mode_of old) (one a) (record old.now { schema = s }) whole None command (Ok (w.tally, new.now))) had.schema w.changed) in
      let now = ap (λ (p : Tally × Database). p.1) (same_value (went (went done.2).2).2) in
      let given = went done.1 in
      let written = went given.2 in
      let trees : done.0.trees ≡ written.0 = ap (λ (it : Written). it.trees) (same_value written.2) in
      let ids = ids_of given.0 in
      let edit = edit_of db receipts ids Given 0 [] in
      let applied = one_step store_schema _ db written.0 edit refl written.1 in
      let left : edited db edit ≡ rows_for (retain_keys c.receipts kept) = ap (λ rows. without_all rows ids) had.receipts ∙ gone_are (λ e. p e.0) es ids (keyed c.receipts) (ids_are 0 op a p passes es db given.0 had.receipts (given.1.answer Null))
      ∙ ap (map stored_row) (filter_same (λ e. not (p e.0)) (λ e. kept e.0) (λ e. turns e.0) es ∙ sym (entries_retained c.receipts kept)) in
      record {
        holds = record {
          schema = ap (λ (d : Database). d.schema) now;
          receipts = ap (λ (d : Database). d.trees 0) now ∙ ap (λ (t : Trees). t 0) trees ∙ applied.rows ∙ left;
          checkpoints = ap (λ (d : Database). d.trees 1) now ∙ ap (λ (t : Trees). t 1) trees ∙ applied.tables.1.0 one_not_zero ∙ had.checkpoints;
        };
        begun = h.1.mode;
        committed = h.1.committed_is;
      }

module _ (op : CompareOp) (text : List ℕ) (is : command_of (understood store_schema text) ≡ Delete 1 (record { lets = []; body = query 1 op })) (plain : IsPlain (understood store_schema text)) (a : ℕ) (p kept : ℕ → Bool)
    (passes : (e : ℕ × List ℕ) → list_all (holds (one a ∷ stored_row e ∷ [])) (terms op) ≡ p e.0) (turns : (x : ℕ) → not (p x) ≡ kept x) where
  removes_checkpoints : (old new : State) (c : Content) (count : ℕ) → Holds old.now c → ExecutesInside 0 text (one a) old new (Ok count) → GoesOn old new (record c { checkpoints = retain_keys c.checkpoints kept })
  removes_checkpoints old new c count had h =
      let db = old.now.trees in
      let es = entries c.checkpoints in
      let command = Delete 1 (record { lets = []; body = query 1 op }) in
      let w = runs_as text (one a) old new store_schema had.schema command is plain count h.0 in
      let whole = statement_of text (understood store_schema text) in
      let done = went (subst (λ s. Does old.step_limit (mode_of old) (one a) (record old.now { schema = s }) whole None command (Ok (w.tally, new.now))) had.schema w.changed) in
      let now = ap (λ (p : Tally × Database). p.1) (same_value (went (went done.2).2).2) in
      let given = went done.1 in
      let written = went given.2 in
      let trees : done.0.trees ≡ written.0 = ap (λ (it : Written). it.trees) (same_value written.2) in
      let ids = ids_of given.0 in
      let edit = edit_of db checkpoints ids Given 0 [] in
      let applied = one_step store_schema _ db written.0 edit refl written.1 in
      let left : edited db edit ≡ rows_for (retain_keys c.checkpoints kept) = ap (λ rows. without_all rows ids) had.checkpoints ∙ gone_are (λ e. p e.0) es ids (keyed c.checkpoints) (ids_are 1 op a p passes es db given.0 had.checkpoints (given.1.answer Null))
      ∙ ap (map stored_row) (filter_same (λ e. not (p e.0)) (λ e. kept e.0) (λ e. turns e.0) es ∙ sym (entries_retained c.checkpoints kept)) in
      record {
        holds = record {
          schema = ap (λ (d : Database). d.schema) now;
          checkpoints = ap (λ (d : Database). d.trees 1) now ∙ ap (λ (t : Trees). t 1) trees ∙ applied.rows ∙ left;
          receipts = ap (λ (d : Database). d.trees 0) now ∙ ap (λ (t : Trees). t 0) trees ∙ applied.tables.0 zero_not_one ∙ had.receipts;
        };
        begun = h.1.mode;
        committed = h.1.committed_is;
      }

abbrev pub cut_receipts_text : List ℕ
cut_receipts_text = codes "DELETE FROM receipts WHERE x > ?1"

cut_receipts_is : command_of (understood store_schema cut_receipts_text) ≡ Delete 0 (record { lets = []; body = query 0 Gt })
unfolding understood everything
cut_receipts_is = refl

cut_receipts_plain : IsPlain (understood store_schema cut_receipts_text)
unfolding understood everything
cut_receipts_plain = (refl, refl)

cut_receipts_turns : (a x : ℕ) → not (nat_lt a x) ≡ (nat_le x a)
cut_receipts_turns a x = grind (arith, nat_tests)

cut_receipts_passes : (a : ℕ) (e : ℕ × List ℕ) → list_all (holds (one a ∷ stored_row e ∷ [])) (terms Gt) ≡ (nat_lt a e.0)
cut_receipts_passes a e = rw (over e.0 a) (and_true (nat_lt a e.0))

pub cut_receipts : (old new : State) (a : ℕ) (c : Content) (count : ℕ) → Holds old.now c → ExecutesInside 0 cut_receipts_text (one a) old new (Ok count) → GoesOn old new (record c { receipts = retain_keys c.receipts (λ x. nat_le x a) })
cut_receipts old new a c count had h = removes_receipts Gt cut_receipts_text cut_receipts_is cut_receipts_plain a (λ x. nat_lt a x) (λ x. nat_le x a) (cut_receipts_passes a) (cut_receipts_turns a) old new c count had h

abbrev pub cut_checkpoints_text : List ℕ
cut_checkpoints_text = codes "DELETE FROM checkpoints WHERE x > ?1"

cut_checkpoints_is : command_of (understood store_schema cut_checkpoints_text) ≡ Delete 1 (record { lets = []; body = query 1 Gt })
unfolding understood everything
cut_checkpoints_is = refl

cut_checkpoints_plain : IsPlain (understood store_schema cut_checkpoints_text)
unfolding understood everything
cut_checkpoints_plain = (refl, refl)

cut_checkpoints_turns : (a x : ℕ) → not (nat_lt a x) ≡ (nat_le x a)
cut_checkpoints_turns a x = grind (arith, nat_tests)

cut_checkpoints_passes : (a : ℕ) (e : ℕ × List ℕ) → list_all (holds (one a ∷ stored_row e ∷ [])) (terms Gt) ≡ (nat_lt a e.0)
cut_checkpoints_passes a e = rw (over e.0 a) (and_true (nat_lt a e.0))

pub cut_checkpoints : (old new : State) (a : ℕ) (c : Content) (count : ℕ) → Holds old.now c → ExecutesInside 0 cut_checkpoints_text (one a) old new (Ok count) → GoesOn old new (record c { checkpoints = retain_keys c.checkpoints (λ x. nat_le x a) })
cut_checkpoints old new a c count had h = removes_checkpoints Gt cut_checkpoints_text cut_checkpoints_is cut_checkpoints_plain a (λ x. nat_lt a x) (λ x. nat_le x a) (cut_checkpoints_passes a) (cut_checkpoints_turns a) old new c count had h

abbrev pub prune_receipts_text : List ℕ
prune_receipts_text = codes "DELETE FROM receipts WHERE x <= ?1"

prune_receipts_is : command_of (understood store_schema prune_receipts_text) ≡ Delete 0 (record { lets = []; body = query 0 Le })
unfolding understood everything
prune_receipts_is = refl

prune_receipts_plain : IsPlain (understood store_schema prune_receipts_text)
unfolding understood everything
prune_receipts_plain = (refl, refl)

prune_receipts_turns : (a x : ℕ) → not (nat_le x a) ≡ (nat_lt a x)
prune_receipts_turns a x = grind (arith, nat_tests)

prune_receipts_passes : (a : ℕ) (e : ℕ × List ℕ) → list_all (holds (one a ∷ stored_row e ∷ [])) (terms Le) ≡ (nat_le e.0 a)
prune_receipts_passes a e = rw (up_to e.0 a) (and_true (nat_le e.0 a))

pub prune_receipts : (old new : State) (a : ℕ) (c : Content) (count : ℕ) → Holds old.now c → ExecutesInside 0 prune_receipts_text (one a) old new (Ok count) → GoesOn old new (record c { receipts = retain_keys c.receipts (λ x. nat_lt a x) })
prune_receipts old new a c count had h = removes_receipts Le prune_receipts_text prune_receipts_is prune_receipts_plain a (λ x. nat_le x a) (λ x. nat_lt a x) (prune_receipts_passes a) (prune_receipts_turns a) old new c count had h

abbrev pub prune_checkpoints_text : List ℕ
prune_checkpoints_text = codes "DELETE FROM checkpoints WHERE x < ?1"

prune_checkpoints_is : command_of (understood store_schema prune_checkpoints_text) ≡ Delete 1 (record { lets = []; body = query 1 Lt })
unfolding understood everything
prune_checkpoints_is = refl

prune_checkpoints_plain : IsPlain (understood store_schema prune_checkpoints_text)
unfolding understood everything
prune_checkpoints_plain = (refl, refl)

prune_checkpoints_turns : (a x : ℕ) → not (nat_lt x a) ≡ (nat_le a x)
prune_checkpoints_turns a x = grind (arith, nat_tests)

prune_checkpoints_passes : (a : ℕ) (e : ℕ × List ℕ) → list_all (holds (one a ∷ stored_row e ∷ [])) (terms Lt) ≡ (nat_lt e.0 a)
prune_checkpoints_passes a e = rw (under e.0 a) (and_true (nat_lt e.0 a))

pub prune_checkpoints : (old new : State) (a : ℕ) (c : Content) (count : ℕ) → Holds old.now c → ExecutesInside 0 prune_checkpoints_text (one a) old new (Ok count) → GoesOn old new (record c { checkpoints = retain_keys c.checkpoints (λ x. nat_le a x) })
prune_checkpoints old new a c count had h = removes_checkpoints Lt prune_checkpoints_text prune_checkpoints_is prune_checkpoints_plain a (λ x. nat_lt x a) (λ x. nat_le a x) (prune_checkpoints_passes a) (prune_checkpoints_turns a) old new c count had h

-- ---- two statements
abbrev done : {A : Type 0} → A → Result A Refusal
done x = Ok x

goes_ok : {A B C : Type 0} {f g : Content → Content} (old mid new : State) (x : A) (y : C) → Goes f old mid (done x) → {z : B} → Goes g mid new (done z) → Goes (λ k. g (f k)) old new (done y)
goes_ok {f = f} {g = g} old mid new x y a b = record {
  put = λ c had begun. let first = a.put c had begun in let then_ = b.put (f c) first.holds first.begun in record { holds = then_.holds; begun = then_.begun; committed = then_.committed ∙ first.committed };
  goes_on = λ begun. b.goes_on (a.goes_on begun);
  kept = keeps_then old mid new a.kept b.kept;
}

-- two statements one after the other
pub performs_both : {A B C : Type 0} {f g : Content → Content} (old mid new : State) (x : A) (y : C) → Performs f old mid (done x) → {z : B} → Performs g mid new (done z) → Performs (λ k. g (f k)) old new (done y)
performs_both old mid new x y a b = record { step = λ h. goes_ok old mid new x y (a.step (b.clean h)) (b.step h); clean = λ h. a.clean (b.clean h) }
