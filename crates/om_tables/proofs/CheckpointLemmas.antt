-- What INSERT of a checkpoint does.
use Rattle.std.proofs.Common.{◌≡◌, ℕ, pos, List, [], ◌∷◌, map, codes, Bool, true, false, cond, None, Ok, refl, sym, ap, subst, ◌∙◌, arith}
use Rattle.sqlite.specs.declared.types.Value.{Value}
use Rattle.sqlite.specs.declared.types.Value.TheVariants.{Null, Int, Blob}
use Rattle.sqlite.specs.Term.{Term, lit, col}
use Rattle.sqlite.specs.Ops.{unary}
use Rattle.sqlite.specs.Kind.TheVariants.{Integer}
use Rattle.sqlite.specs.Source.TheVariants.{Values}
use Rattle.sqlite.specs.Command.TheVariants.{Insert}
use Rattle.sqlite.specs.Edit.{edit_of, edited}
use Rattle.sqlite.specs.Cast.{cast}
use Rattle.sqlite.specs.Rowids.TheVariants.{Chosen}
use Rattle.sqlite.specs.Does.{Tally, Does}
use Rattle.sqlite.specs.Rows.{Written}
use Rattle.sqlite.specs.Tree.{Trees, put_row}
use Rattle.sqlite_tied.specs.Compute.{everything}
use Rattle.sqlite.specs.Listing.{understood}
use Rattle.sqlite.specs.Effect.{Database}
use Rattle.sqlite.specs.State.{State, mode_of, Executes, ExecutesInside}
use Rattle.sqlite.proofs.Callers.{IsPlain, command_of, statement_of, runs_as, one_step}
use Rattle.om_tables.specs.Tables.{checkpoints, store_schema, stored_row}
use Rattle.om_tables.specs.Store.{Holds}
use Rattle.om_tables.specs.steps.Statements.{GoesOn, stored}
use Rattle.om_stable.specs.Content.{Content}
use Rattle.std.specs.FinMap.{insert, entries, entries-insert}
use Rattle.std.specs.Cmp.{nat_cmp_total}
use Rattle.om_tables.proofs.CreateLemmas.{went, same_value}
use Rattle.om_tables.proofs.InsertLemmas.{put_rows}

abbrev pub insert_text : List ℕ
insert_text = codes "INSERT INTO checkpoints (x, body) VALUES (?1, ?2)"

abbrev terms : List Term
terms = col 0 0 ∷ lit Null ∷ col 0 1 ∷ []

insert_is : command_of (understood store_schema insert_text) ≡ Insert 1 (Values terms 3)
unfolding understood everything
insert_is = refl

insert_plain : IsPlain (understood store_schema insert_text)
unfolding understood everything
insert_plain = (refl, refl)

either : (b : Bool) (x : Value) → cond b x x ≡ x
either true x = refl
either false x = refl

cast_null : cast Integer Null ≡ Null
unfolding unary
cast_null = either _ Null

cast_int : (x : ℕ) → cast Integer (Int (pos x)) ≡ Int (pos x)
unfolding unary
cast_int x = either _ (Int (pos x))

zero_not_one : ◌≡◌ {A = ℕ} 0 1 → ⊥
zero_not_one e = omega arith

pub record Adds (old new : Database) (x : ℕ) (body : List ℕ) : Type 0 where
  pub schema : new.schema ≡ store_schema
  pub rows : new.trees 1 ≡ put_row (stored x body) (old.trees 1)
  pub others : new.trees 0 ≡ old.trees 0

pub adds : (old new : State) (x : ℕ) (body : List ℕ) (count : ℕ) → old.now.schema ≡ store_schema → Executes insert_text (Int (pos x) ∷ Blob body ∷ []) old new (Ok count) → Adds old.now new.now x body
adds old new x body count has h =
    let params = Int (pos x) ∷ Blob body ∷ [] in
    let db = old.now.trees in
    let command = Insert 1 (Values terms 3) in
    let w = runs_as insert_text params old new store_schema has command insert_is insert_plain count h in
    let text = statement_of insert_text (understood store_schema insert_text) in
    let done = went (subst (λ s. Does old.step_limit (mode_of old) params (record old.now { schema = s }) text None command (Ok (w.tally, new.now))) has w.changed) in
    let now = ap (λ (p : Tally × Database). p.1) (same_value (went (went done.2).2).2) in
    let given = went done.1 in
    let written = went (went given.2).2 in
    let counted = went written.2 in
    let trees : done.0.trees ≡ written.0 = ap (λ (it : Written). it.trees) (same_value counted.2) ∙ same_value counted.1 in
    let applied = one_step store_schema _ db written.0 (edit_of db checkpoints [] Chosen 0 given.0) refl written.1 in
    let edit : edited db (edit_of db checkpoints [] Chosen 0 given.0) ≡ put_row (stored x body) (db 1) = ap (λ all. edited db (edit_of db checkpoints [] Chosen 0 all)) given.1.1 ∙ rw (cast_null, cast_int x) refl in
    record {
      schema = ap (λ (d : Database). d.schema) now;
      rows = ap (λ (d : Database). d.trees 1) now ∙ ap (λ (t : Trees). t 1) trees ∙ applied.rows ∙ edit;
      others = ap (λ (d : Database). d.trees 0) now ∙ ap (λ (t : Trees). t 0) trees ∙ applied.tables.0 zero_not_one;
    }

pub puts : (old new : State) (x : ℕ) (body : List ℕ) (count : ℕ) (c : Content) → Holds old.now c → ExecutesInside 0 insert_text (Int (pos x) ∷ Blob body ∷ []) old new (Ok count) → GoesOn old new (record c { checkpoints = insert c.checkpoints x body })
puts old new x body count c had h =
    let a = adds old new x body count had.schema h.0 in
    record {
      holds = record { schema = a.schema; receipts = a.others ∙ had.receipts; checkpoints = a.rows ∙ ap (put_row (stored x body)) had.checkpoints ∙ put_rows x body (entries c.checkpoints) ∙ ap (map stored_row) (sym (entries-insert nat_cmp_total c.checkpoints x body)) };
      begun = h.1.mode;
      committed = h.1.committed_is;
    }
