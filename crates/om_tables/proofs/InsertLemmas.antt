-- What INSERT and DELETE do.
use Rattle.std.proofs.Common.{◌≡◌, inl, inr, ℕ, pos, List, [], ◌∷◌, ◌+◌, ◌/◌, length, drop, map, codes, Bool, true, false, cond, None, Ok, Err, Result, IfErr, OnErr, refl, sym, ap, ap₂, subst, ◌∙◌, arith, ◌<◌, IsTrue, true≢false}
use Rattle.sqlite.specs.declared.types.Value.{Value}
use Rattle.sqlite.specs.declared.types.Value.TheVariants.{Null, Int, Blob}
use Rattle.sqlite.specs.Order.{Row, value_cmp}
use Rattle.sqlite.specs.Term.{Term, lit, col}
use Rattle.sqlite.specs.Ops.{unary}
use Rattle.sqlite.specs.Kind.TheVariants.{Integer}
use Rattle.sqlite.specs.Source.TheVariants.{Values}
use Rattle.sqlite.specs.Command.TheVariants.{Insert}
use Rattle.sqlite.specs.Edit.{edit_of, edited, numbered, put_all, with_rowid}
use Rattle.sqlite.specs.Cast.{cast, cast_row}
use Rattle.sqlite.specs.Rowids.TheVariants.{Chosen}
use Rattle.sqlite.specs.Does.{Tally, Does}
use Rattle.sqlite.specs.Rows.{Written, stamped}
use Rattle.sqlite.specs.Tree.{Trees, put_row}
use Rattle.sqlite_tied.specs.Compute.{everything}
use Rattle.sqlite.specs.declared.error.Error.{Error}
use Rattle.om_tables.specs.declared.refusal.Refusal.{Refusal}
use Rattle.om_tables.specs.steps.Answers.{answered}
use Rattle.sqlite.specs.Listing.{understood}
use Rattle.sqlite.specs.Effect.{Database, value_rows}
use Rattle.sqlite.specs.State.{State, HasCleanDisk, mode_of, Executes, ExecutesInside, KeepsCommit, FailsToQuery, IsNotRun}
use Rattle.sqlite.proofs.Callers.{IsPlain, command_of, statement_of, runs_as, one_step}
use Rattle.sqlite.specs.Steps.{FailsToCommit}
use Rattle.om_tables.specs.Tables.{receipts, store_schema, stored_row}
use Rattle.om_tables.specs.Store.{Holds, rows_for}
use Rattle.om_tables.specs.steps.Statements.{Makes, GoesOn, Goes, Performs, stored}
use Rattle.om_stable.specs.Content.{Records, Content, with_all, with_receipts}
use Rattle.std.specs.FinMap.{insert, entries, put, entries-insert, nat_cmp-IsAntisymmetric}
use Rattle.std.specs.FinMap.Entries.{by_order}
use Rattle.std.specs.Prelude.{fold}
use Rattle.std.specs.Ordering.{nat_cmp}
use Rattle.std.specs.Cmp.{nat_cmp_total, ranked}
use Rattle.std.specs.declared.cmp.Ordering.{Ordering}
use Rattle.std.specs.declared.cmp.Ordering.TheVariants.{Less, Equal, Greater}
use Rattle.sqlite_value.proofs.OrderLemmas.{value_cmp-Int}
use Rattle.std.proofs.lemmas.Bool.Decides.{nat_tests}
use Rattle.om_tables.proofs.CreateLemmas.{went, same_value, on_ok}
use Rattle.std.proofs.lemmas.Bool.{cases_Bool}

abbrev pub insert_text : List ℕ
insert_text = codes "INSERT INTO receipts (x, body) VALUES (?1, ?2)"

abbrev terms : List Term
terms = col 0 0 ∷ lit Null ∷ col 0 1 ∷ []

insert_is : command_of (understood store_schema insert_text) ≡ Insert 0 (Values terms 3)
unfolding understood everything
insert_is = refl

insert_plain : IsPlain (understood store_schema insert_text)
unfolding understood everything
insert_plain = (refl, refl)

abbrev pub insert_four_text : List ℕ
insert_four_text = codes "INSERT INTO receipts (x, body) VALUES (?1, ?2), (?3, ?4), (?5, ?6), (?7, ?8)"

abbrev terms_of_four : List Term
terms_of_four = col 0 0 ∷ lit Null ∷ col 0 1 ∷ col 0 2 ∷ lit Null ∷ col 0 3 ∷ col 0 4 ∷ lit Null ∷ col 0 5 ∷ col 0 6 ∷ lit Null ∷ col 0 7 ∷ []

insert_four_is : command_of (understood store_schema insert_four_text) ≡ Insert 0 (Values terms_of_four 3)
unfolding understood everything
insert_four_is = refl

insert_four_plain : IsPlain (understood store_schema insert_four_text)
unfolding understood everything
insert_four_plain = (refl, refl)

either : (b : Bool) (x : Value) → cond b x x ≡ x
either true x = refl
either false x = refl

cast_null : cast Integer Null ≡ Null
unfolding unary
cast_null = either _ Null

cast_int : (x : ℕ) → cast Integer (Int (pos x)) ≡ Int (pos x)
unfolding unary
cast_int x = either _ (Int (pos x))

one_not_zero : ◌≡◌ {A = ℕ} 1 0 → ⊥
one_not_zero e = omega arith

-- these rows are inserted into the first table, each with the rowid that it has
pub record Inserts (old new : Database) (given : List Row) : Type 0 where
  pub schema : new.schema ≡ store_schema
  pub rows : new.trees 0 ≡ edited old.trees (edit_of old.trees receipts [] Chosen 0 given)
  pub others : new.trees 1 ≡ old.trees 1

module _ (text : List ℕ) (terms : List Term) (is : command_of (understood store_schema text) ≡ Insert 0 (Values terms 3)) (plain : IsPlain (understood store_schema text)) where
  inserts : (old new : State) (params : Row) (count : ℕ) → old.now.schema ≡ store_schema → Executes text params old new (Ok count)
      → Inserts old.now new.now (value_rows (stamped receipts params) 3 (length terms / 3) terms)
  inserts old new params count has h =
      let db = old.now.trees in
      let command = Insert 0 (Values terms 3) in
      let w = runs_as text params old new store_schema has command is plain count h in
      let statement = statement_of text (understood store_schema text) in
      let done = went (subst (λ s. Does old.step_limit (mode_of old) params (record old.now { schema = s }) statement None command (Ok (w.tally, new.now))) has w.changed) in
      let now = ap (λ (p : Tally × Database). p.1) (same_value (went (went done.2).2).2) in
      let given = went done.1 in
      let written = went (went given.2).2 in
      let counted = went written.2 in
      let trees : done.0.trees ≡ written.0 = ap (λ (it : Written). it.trees) (same_value counted.2) ∙ same_value counted.1 in
      let applied = one_step store_schema _ db written.0 (edit_of db receipts [] Chosen 0 given.0) refl written.1 in
      record {
        schema = ap (λ (d : Database). d.schema) now;
        rows = ap (λ (d : Database). d.trees 0) now ∙ ap (λ (t : Trees). t 0) trees ∙ applied.rows ∙ ap (λ all. edited db (edit_of db receipts [] Chosen 0 all)) given.1.1;
        others = ap (λ (d : Database). d.trees 1) now ∙ ap (λ (t : Trees). t 1) trees ∙ applied.tables.1.0 one_not_zero;
      }

-- ---- the rows as records

lt_from_nat_cmp : (x y : ℕ) → nat_cmp x y ≡ Less → x < y
lt_from_nat_cmp x y h = ranked x y Less (sym h)

gt_from_nat_cmp : (x y : ℕ) → nat_cmp x y ≡ Greater → y < x
gt_from_nat_cmp x y h = ranked x y Greater (sym h)

by_less : (x y : ℕ) → nat_cmp x y ≡ Less → value_cmp (Int (pos y)) (Int (pos x)) ≡ Greater
by_less x y h = let lt = lt_from_nat_cmp x y h in rw value_cmp-Int (grind (arith, nat_tests))

by_greater : (x y : ℕ) → nat_cmp x y ≡ Greater → value_cmp (Int (pos y)) (Int (pos x)) ≡ Less
by_greater x y h = let gt = gt_from_nat_cmp x y h in rw value_cmp-Int (grind (arith, nat_tests))

by_equal : (x y : ℕ) → x ≡ y → value_cmp (Int (pos y)) (Int (pos x)) ≡ Equal
by_equal x y e = rw value_cmp-Int (grind (arith, nat_tests))

pub put_rows : (x : ℕ) (body : List ℕ) (es : List (ℕ × List ℕ)) → put_row (stored x body) (map stored_row es) ≡ map stored_row (put nat_cmp x body es)
put_rows x body [] = refl
put_rows x body (e ∷ es) = go (put_rows x body es) (nat_cmp x e.0) refl
  where
    go : put_row (stored x body) (map stored_row es) ≡ map stored_row (put nat_cmp x body es) → (o : Ordering) → nat_cmp x e.0 ≡ o → put_row (stored x body) (stored_row e ∷ map stored_row es) ≡ map stored_row (by_order o ((x, body) ∷ e ∷ es) ((e.0, body) ∷ es) (e ∷ put nat_cmp x body es))
    go rest Less is = rw (by_less x e.0 is) refl
    go rest Equal is = let same = nat_cmp-IsAntisymmetric x e.0 is in rw (by_equal x e.0 same) (ap (λ k. stored k body ∷ map stored_row es) same)
    go rest Greater is = rw (by_greater x e.0 is) (ap (λ rs. stored_row e ∷ rs) rest)

-- a row that is stored is so as it is given
kept_row : (rows : List Row) (e : ℕ × List ℕ) → with_rowid Chosen rows (cast_row receipts (drop 0 (stored_row e))) ≡ stored_row e
kept_row rows e = rw (cast_null, cast_int e.0) refl

kept_rows : (rows : List Row) (es : List (ℕ × List ℕ)) → numbered Chosen rows (map (λ s. cast_row receipts (drop 0 s)) (map stored_row es)) ≡ map stored_row es
kept_rows rows [] = refl
kept_rows rows (e ∷ es) = ap₂ (λ (r : Row) (rs : List Row). r ∷ rs) (kept_row rows e) (kept_rows (put_row (with_rowid Chosen rows (cast_row receipts (drop 0 (stored_row e)))) rows) es)

put_one : (m : Records) (e : ℕ × List ℕ) → put_row (stored_row e) (rows_for m) ≡ rows_for (insert m e.0 e.1)
put_one m e = put_rows e.0 e.1 (entries m) ∙ ap (map stored_row) (sym (entries-insert nat_cmp_total m e.0 e.1))

-- the records with these
abbrev with_entries : Records → List (ℕ × List ℕ) → Records
with_entries m es = fold (λ (held : Records) (e : ℕ × List ℕ). insert held e.0 e.1) m es

put_each : (m : Records) (es : List (ℕ × List ℕ)) → put_all (rows_for m) (map stored_row es) ≡ rows_for (with_entries m es)
put_each m [] = refl
put_each m (e ∷ es) = ap (λ rows. put_all rows (map stored_row es)) (put_one m e) ∙ put_each (insert m e.0 e.1) es

-- a statement that inserts these
puts_entries : (old new : State) (text : List ℕ) (params : Row) (terms : List Term) (es : List (ℕ × List ℕ)) (count : ℕ) (c : Content)
    → command_of (understood store_schema text) ≡ Insert 0 (Values terms 3) → IsPlain (understood store_schema text) → value_rows (stamped receipts params) 3 (length terms / 3) terms ≡ map stored_row es
    → Holds old.now c → ExecutesInside 0 text params old new (Ok count) → GoesOn old new (record c { receipts = with_entries c.receipts es })
puts_entries old new text params terms es count c is plain gives had h =
    let a = inserts text terms is plain old new params count had.schema h.0 in
    let rows : new.now.trees 0 ≡ put_all (old.now.trees 0) (map stored_row es) =
    a.rows ∙ ap (λ all. edited old.now.trees (edit_of old.now.trees receipts [] Chosen 0 all)) gives ∙ ap (put_all (old.now.trees 0)) (kept_rows (old.now.trees 0) es) in
    record {
      holds = record { schema = a.schema; receipts = rows ∙ ap (λ all. put_all all (map stored_row es)) had.receipts ∙ put_each c.receipts es; checkpoints = a.others ∙ had.checkpoints };
      begun = h.1.mode;
      committed = h.1.committed_is;
    }

pub puts : (old new : State) (x : ℕ) (body : List ℕ) (count : ℕ) (c : Content) → Holds old.now c → ExecutesInside 0 insert_text (Int (pos x) ∷ Blob body ∷ []) old new (Ok count) → GoesOn old new (record c { receipts = insert c.receipts x body })
puts old new x body count c had h = puts_entries old new insert_text (Int (pos x) ∷ Blob body ∷ []) terms ((x, body) ∷ []) count c insert_is insert_plain refl had h

abbrev pub four_params : ℕ → List ℕ → List ℕ → List ℕ → List ℕ → Row
four_params x a b c d = Int (pos x) ∷ Blob a ∷ Int (pos (x + 1)) ∷ Blob b ∷ Int (pos (x + 2)) ∷ Blob c ∷ Int (pos (x + 3)) ∷ Blob d ∷ []

abbrev four_entries : ℕ → List ℕ → List ℕ → List ℕ → List ℕ → List (ℕ × List ℕ)
four_entries x a b c d = (x, a) ∷ (x + 1, b) ∷ (x + 2, c) ∷ (x + 3, d) ∷ []

in_turn : (m : Records) (x : ℕ) (a b c d : List ℕ) → with_entries m (four_entries x a b c d) ≡ with_all m x (a ∷ b ∷ c ∷ d ∷ [])
in_turn m x a b c d =
    let third : x + 2 ≡ x + 1 + 1 = omega arith in
    let fourth : x + 3 ≡ x + 1 + 1 + 1 = omega arith in
    ap₂ (λ (y z : ℕ). insert (insert (insert (insert m x a) (x + 1) b) y c) z d) third fourth

pub puts_four : (old new : State) (x : ℕ) (a b c d : List ℕ) (count : ℕ) (k : Content) → Holds old.now k → ExecutesInside 0 insert_four_text (four_params x a b c d) old new (Ok count)
    → GoesOn old new (with_receipts k x (a ∷ b ∷ c ∷ d ∷ []))
puts_four old new x a b c d count k had h =
    subst (λ (m : Records). GoesOn old new (record k { receipts = m })) (in_turn k.receipts x a b c d)
    (puts_entries old new insert_four_text (four_params x a b c d) terms_of_four (four_entries x a b c d) count k insert_four_is insert_four_plain refl had h)

-- a statement that fails keeps what was committed
pub fails : (old new : State) (sql : List ℕ) (params : Row) (e : Error) → ExecutesInside 0 sql params old new (Err e) → KeepsCommit old new
fails old new sql params e (inl (_, inl same)) = record { was_open = λ _. same.0.was_open; committed = λ _. same.0.committed_is }
fails old new sql params e (inl (_, inr back)) = record { was_open = back.was_open; committed = λ here. (back.undone here).1 }
fails old new sql params e (inr (_, _, same)) = record { was_open = λ _. same.0.was_open; committed = λ _. same.0.committed_is }

pub same_keeps : (old new : State) → new ≡ old → KeepsCommit old new
same_keeps old new same = subst (KeepsCommit old) (sym same) (record { was_open = λ h. h; committed = λ h. refl })

-- and so does one that is done
pub keeps : (old new : State) (sql : List ℕ) (params : Row) (r : Result ℕ Refusal) → ExecutesInside 0 sql params old new (answered r) → KeepsCommit old new
keeps old new sql params (Ok count) h = record { was_open = λ _. h.1.was_open; committed = λ _. h.1.committed_is }
keeps old new sql params (Err e) h = fails old new sql params e.error h

pub keeps_then : (a b c : State) → KeepsCommit a b → KeepsCommit b c → KeepsCommit a c
keeps_then a b c p q = record { was_open = λ h. p.was_open (q.was_open h); committed = λ h. q.committed h ∙ p.committed (q.was_open h) }

-- a commit that fails leaves what was committed
pub uncommitted : (mid last : State) (e : Error) → FailsToCommit mid last e → IsTrue last.is_open → IsTrue mid.in_transaction → (last.now ≡ mid.committed) × (last.committed ≡ mid.committed)
uncommitted mid last e (inl fails) here begun = fails.3.undone here
uncommitted mid last e (inr (_, ended, same)) here begun = absurd (true≢false (sym begun ∙ ended))

pub still_begun : (old new : State) (sql : List ℕ) (params : Row) (count : ℕ) → ExecutesInside 0 sql params old new (Ok count) → IsTrue new.in_transaction
still_begun old new sql params count h = h.1.mode

pub uncommitted_then : (old mid last : State) (e : Error) → KeepsCommit old mid → FailsToCommit mid last e → IsTrue last.is_open → IsTrue mid.in_transaction → (last.now ≡ old.committed) × (last.committed ≡ old.committed)
uncommitted_then old mid last e kept fails here begun =
    let back = uncommitted mid last e fails here begun in
    let was = was_open mid last e fails here in
    (back.0 ∙ kept.committed was, back.1 ∙ kept.committed was)
  where
    was_open : (mid last : State) (e : Error) → FailsToCommit mid last e → IsTrue last.is_open → IsTrue mid.is_open
    was_open mid last e (inl fails) here = fails.3.was_open here
    was_open mid last e (inr (_, _, same)) here = same.0.was_open

pub err_then : {A : Type 0} {P : Error → Type 0} {Q : Type 0} (r : Result A Refusal) → IfErr r (λ e. P e.error) → ((e : Error) → P e → Q) → OnErr r Q
err_then (Ok a) h f = tt
err_then (Err e) h f = f e.error h

-- A query that is refused changes nothing, or rolls back, which outside a transaction is the same.
pub unharmed : (old new : State) (sql : List ℕ) (params : Row) (e : Error) → IsPlain (understood old.now.schema sql) → FailsToQuery sql params old new e → IsTrue new.is_open → old.now ≡ old.committed
    → (new.now ≡ old.now) × (new.committed ≡ old.committed)
unfolding FailsToQuery IsNotRun
unharmed old new sql params e plain (inl (inl same)) here settled = (same.1.0.now_is, same.1.0.committed_is)
unharmed old new sql params e plain (inl (inr fails)) here settled = ((fails.3.undone here).0 ∙ sym settled, (fails.3.undone here).1)
unharmed old new sql params e plain (inr h) here settled =
    let bare = subst IsPlain h.1.is plain in
    let same = rw bare.0 at h.2 in
    (same.3.0.now_is, same.3.0.committed_is)

-- a statement in a transaction
goes : {f : Content → Content} (old new : State) (text : List ℕ) (params : Row) (r : Result ℕ Refusal)
    → (IsTrue old.in_transaction → ExecutesInside 0 text params old new (answered r)) → (old.in_transaction ≡ false → new ≡ old)
    → ((c : Content) (count : ℕ) → Holds old.now c → ExecutesInside 0 text params old new (Ok count) → GoesOn old new (f c)) → Goes f old new r
goes old new text params r runs ended puts = record {
  put = λ c had begun. on_ok r (λ count is. puts c count had (subst (λ it. ExecutesInside 0 text params old new (answered it)) is (runs begun)));
  goes_on = λ begun. on_ok r (λ count is. still_begun old new text params count (subst (λ it. ExecutesInside 0 text params old new (answered it)) is (runs begun)));
  kept = elim (cases_Bool old.in_transaction) [
    | inl begun ↦ keeps old new text params r (runs begun)
    | inr none ↦ same_keeps old new (ended none)
  ];
}

-- a statement inside a transaction, by what its text means
pub performs : {f : Content → Content} (old new : State) (text : List ℕ) (params : Row) (r : Result ℕ Refusal)
    → (HasCleanDisk new → HasCleanDisk old) → (HasCleanDisk new → IsTrue old.in_transaction → ExecutesInside 0 text params old new (answered r))
    → (old.in_transaction ≡ false → new ≡ old)
    → ((c : Content) (count : ℕ) → Holds old.now c → ExecutesInside 0 text params old new (Ok count) → GoesOn old new (f c)) → Performs f old new r
performs old new text params r clean runs ended puts = record { step = λ h. goes old new text params r (runs h) ended puts; clean = clean }

-- a statement inside a transaction that makes a table, by what its text means
pub makes : {Before After : Database → Type 0} (old new : State) (text : List ℕ) (r : Result ℕ Refusal)
    → (HasCleanDisk new → IsTrue old.in_transaction → ExecutesInside 0 text [] old new (answered r)) → (old.in_transaction ≡ false → new ≡ old)
    → ((count : ℕ) → Before old.now → ExecutesInside 0 text [] old new (Ok count) → After new.now) → Makes Before After old new r
makes old new text r runs ended made = record {
  made = λ clean had begun. on_ok r (λ count is. made count had (subst (λ it. ExecutesInside 0 text [] old new (answered it)) is (runs clean begun)));
  goes_on = λ clean begun. on_ok r (λ count is. still_begun old new text [] count (subst (λ it. ExecutesInside 0 text [] old new (answered it)) is (runs clean begun)));
  kept = λ clean. elim (cases_Bool old.in_transaction) [
    | inl begun ↦ keeps old new text [] r (runs clean begun)
    | inr none ↦ same_keeps old new (ended none)
  ];
}

-- ---- two statements
abbrev done : {A : Type 0} → A → Result A Refusal
done x = Ok x

-- two statements one after the other
pub makes_both : {A B C : Type 0} {Before Mid After : Database → Type 0} (old mid new : State) (x : A) (y : C) → Makes Before Mid old mid (done x)
    → (HasCleanDisk new → HasCleanDisk mid) → {z : B} → Makes Mid After mid new (done z) → Makes Before After old new (done y)
makes_both old mid new x y a back b = record {
  made = λ h had begun. b.made h (a.made (back h) had begun) (a.goes_on (back h) begun);
  goes_on = λ h begun. b.goes_on h (a.goes_on (back h) begun);
  kept = λ h. keeps_then old mid new (a.kept (back h)) (b.kept h);
}

-- receipts that are put, said another way
pub retold : {A B : Type 0} (old new : State) (first : ℕ) (xs ys : List (List ℕ)) (x : A) (y : B) → xs ≡ ys → Performs (λ k. with_receipts k first xs) old new (done x) → Performs (λ k. with_receipts k first ys) old new (done y)
retold old new first xs ys x y same p = subst (λ (zs : List (List ℕ)). Performs (λ k. with_receipts k first zs) old new (done y)) same (record {
  step = λ h. let s = p.step h in record { put = λ k had begun. s.put k had begun; goes_on = λ begun. s.goes_on begun; kept = s.kept };
  clean = p.clean;
})
