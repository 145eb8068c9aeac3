-- What the two CREATE statements do.
use Rattle.std.proofs.Common.{◌≡◌, ◌⊎◌, inl, inr, ℕ, List, [], ◌∷◌, map, codes, false, None, Ok, Err, Result, OnOk, OnErr, refl, sym, ap, subst, ◌∙◌}
use Rattle.sqlite.specs.Table.{Table}
use Rattle.sqlite.specs.Schema.{Schema}
use Rattle.sqlite.specs.Command.TheVariants.{CreateTable}
use Rattle.sqlite.specs.Compile.{table_defined_by}
use Rattle.sqlite.specs.Change.{created, next_tree, KeepsRows}
use Rattle.sqlite.specs.Does.{Tally, lacks_sequence}
use Rattle.sqlite_tied.specs.Compute.{everything}
use Rattle.om_tables.specs.declared.refusal.Refusal.{Refusal}
use Rattle.sqlite.specs.Listing.{understood}
use Rattle.sqlite.specs.Effect.{Database}
use Rattle.sqlite.specs.State.{State, Writes, Executes}
use Rattle.sqlite.proofs.Callers.{IsPlain, command_of, statement_of, runs_as}
use Rattle.std.proofs.lemmas.List.{nil_from_length}
use Rattle.std.specs.Ordering.{nat_cmp}
use Rattle.std.specs.FinMap.{entries, empty, len-entries, len-empty}
use Rattle.om_tables.specs.Tables.{receipts, checkpoints, no_schema, store_schema, stored_row}
use Rattle.om_tables.specs.steps.Halfway.{half_schema}
use Rattle.om_tables.specs.Store.{Holds}

abbrev pub receipts_text : List ℕ
receipts_text = codes "CREATE TABLE receipts (x INTEGER PRIMARY KEY, body BLOB NOT NULL)"

abbrev pub checkpoints_text : List ℕ
checkpoints_text = codes "CREATE TABLE checkpoints (x INTEGER PRIMARY KEY, body BLOB NOT NULL)"

receipts_is : (command_of (understood no_schema receipts_text) ≡ CreateTable) × (statement_of receipts_text (understood no_schema receipts_text) ≡ receipts_text) × (table_defined_by receipts_text ≡ Ok receipts)
unfolding understood everything
receipts_is = (refl, refl, refl)

checkpoints_is : (command_of (understood half_schema checkpoints_text) ≡ CreateTable) × (statement_of checkpoints_text (understood half_schema checkpoints_text) ≡ checkpoints_text) × (table_defined_by checkpoints_text ≡ Ok (record checkpoints { tree = 0 }))
unfolding understood everything
checkpoints_is = (refl, refl, refl)

receipts_plain : IsPlain (understood no_schema receipts_text)
unfolding understood everything
receipts_plain = (refl, refl)

checkpoints_plain : IsPlain (understood half_schema checkpoints_text)
unfolding understood everything
checkpoints_plain = (refl, refl)

-- a part that gave a value did not stop on the way
pub went : {B E R : Type 0} {b : B} {Stops : E → Type 0} → ((stop : E) × Stops stop × (Ok b ≡ Err stop)) ⊎ R → R
went (inl stopped) = absurd (let e = stopped.2 in cc)
went (inr on) = on

pub same_value : {B E : Type 0} {a b : B} → ◌≡◌ {A = Result B E} (Ok a) (Ok b) → a ≡ b
same_value e = cc

-- A CREATE TABLE of this text gives this table, over this schema.
module _ (text : List ℕ) (schema : Schema) (table : Table) (is : command_of (understood schema text) ≡ CreateTable) (whole : statement_of text (understood schema text) ≡ text)
    (defined : table_defined_by text ≡ Ok table) (plain : IsPlain (understood schema text)) (unnumbered : lacks_sequence (created schema table) ≡ false) where
  pub creates : (old new : State) (count : ℕ) → old.now.schema ≡ schema → Executes text [] old new (Ok count)
      → (new.now.schema ≡ created schema table) × (new.now.trees (next_tree schema) ≡ []) × KeepsRows schema.tables old.now.trees new.now.trees
  creates old new count has h =
      let w = subst (λ t. Writes old new None CreateTable t [] count) whole (runs_as text [] old new schema has CreateTable is plain count h) in
      let all = went w.changed in
      let first = went all.1 in
      let made = first.1 in
      let both : Ok made.table ≡ Ok table = sym made.defined ∙ defined in
      let same : made.table ≡ table = cc in
      let is_now : first.0.schema ≡ created schema table = made.is ∙ ap (λ s. created s made.table) has ∙ ap (created schema) same in
      let none : lacks_sequence first.0.schema ≡ false = ap lacks_sequence is_now ∙ unnumbered in
      let now : new.now ≡ first.0 = ap (λ (p : Tally × Database). p.1) (same_value all.2) ∙ same_value (rw none at first.2) in (
        ap (λ (d : Database). d.schema) now ∙ is_now,
        ap (λ (d : Database). d.trees (next_tree schema)) now ∙ subst (λ s. first.0.trees (next_tree s) ≡ []) has made.empty,
        subst (λ (d : Database). KeepsRows schema.tables old.now.trees d.trees) (sym now) (subst (λ (s : Schema). KeepsRows s.tables old.now.trees first.0.trees) has made.others),
      )

pub receipts_made : (old new : State) (count : ℕ) → old.now.schema ≡ no_schema → Executes receipts_text [] old new (Ok count) → (new.now.schema ≡ half_schema) × (new.now.trees 0 ≡ []) × KeepsRows [] old.now.trees new.now.trees
receipts_made = creates receipts_text no_schema receipts receipts_is.0 receipts_is.1 receipts_is.2 receipts_plain refl

pub checkpoints_made : (old new : State) (count : ℕ) → old.now.schema ≡ half_schema → Executes checkpoints_text [] old new (Ok count)
    → (new.now.schema ≡ store_schema) × (new.now.trees 1 ≡ []) × KeepsRows (receipts ∷ []) old.now.trees new.now.trees
checkpoints_made = creates checkpoints_text half_schema (record checkpoints { tree = 0 }) checkpoints_is.0 checkpoints_is.1 checkpoints_is.2 checkpoints_plain refl

entries_of_empty : entries (empty {X = List ℕ} {R = nat_cmp}) ≡ []
entries_of_empty = nil_from_length _ (sym (len-entries empty) ∙ len-empty nat_cmp (List ℕ))

pub checkpoints_hold : (old new : State) (count : ℕ) → old.now.schema ≡ half_schema → old.now.trees 0 ≡ [] → Executes checkpoints_text [] old new (Ok count)
    → Holds new.now (record { receipts = empty; checkpoints = empty })
checkpoints_hold old new count had none h =
    let m = checkpoints_made old new count had h in
    record { schema = m.0; receipts = m.2.0 ∙ none ∙ ap (map stored_row) (sym entries_of_empty); checkpoints = m.1 ∙ ap (map stored_row) (sym entries_of_empty) }

-- as the clauses have them
pub on_ok : {P : Type 0} (r : Result ℕ Refusal) → ((count : ℕ) → r ≡ Ok count → P) → OnOk r P
on_ok (Ok count) f = f count refl
on_ok (Err e) f = tt

pub on_err : {P : Type 0} (r : Result ℕ Refusal) → ((e : Refusal) → r ≡ Err e → P) → OnErr r P
on_err (Ok count) f = tt
on_err (Err e) f = f e refl
