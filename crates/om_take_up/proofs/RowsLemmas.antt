-- Rows that a manager is told one after another.
use Rattle.std.proofs.Common.{◌≡◌, ◌⊎◌, inl, inr, ℕ, zero, suc, List, [], ◌∷◌, Some, Ok, Bool, true, false, refl, sym, ap, ◌∙◌, subst}
use Rattle.std.specs.Prelude.{slice_get}
use Rattle.om_manager.specs.Notes.{after_note}
use Rattle.om_manager.specs.Sound.{IsManager}
use Rattle.om_manager.specs.State.{ManagerState}
use Rattle.om_member.specs.Told.{AreTold, IsTold, row_for}
use Rattle.om_process.specs.declared.row.PendingRow.{PendingRow}
use Rattle.om_recover.specs.Rows.{HasRow, Rows}
use Rattle.om_recover.specs.declared.note.Note.{Note}
use Rattle.om_recover.specs.declared.note.Note.TheVariants.{Known, Noted}
use Rattle.om_recover.specs.declared.row.Row.{Row}
use Rattle.om_recover.proofs.RowsLemmas.{inserted, kept, of_inserted}
use Rattle.om_take_up.specs.steps.Telling.{IsToldRows}

none_in : {A : Type 0} (i : ℕ) (s : A) → slice_get [] i ≡ Some s → ⊥
none_in i s h = cc

once : {A : Type 0} (a b : A) → Some a ≡ Some b → a ≡ b
once a b e = cc

-- the rows are those before, with the new one
pub told_kept : (old new : ManagerState) (round p : ℕ) (row : PendingRow) (note : Note) → IsTold old round p row (Ok note) new → (other : Row) → HasRow old.rows other → HasRow new.rows other
told_kept old new round p row (Noted raised) t other has = subst (λ rows. HasRow rows other) (sym t.answers.1.1) (kept old.rows (row_for p row) other has)
told_kept old new round p row Known t other has = subst (λ rows. HasRow rows other) (sym t.answers.1.3) has

pub told_rows : (old new : ManagerState) (round p : ℕ) (row : PendingRow) (note : Note) → IsTold old round p row (Ok note) new → (other : Row) → HasRow new.rows other → HasRow old.rows other ⊎ (other ≡ row_for p row)
told_rows old new round p row (Noted raised) t other has = elim (of_inserted old.rows (row_for p row) other (subst (λ rows. HasRow rows other) t.answers.1.1 has)) [ inl same ↦ inr same | inr old ↦ inl old ]
told_rows old new round p row Known t other has = inl (subst (λ rows. HasRow rows other) t.answers.1.3 has)

-- a row is one of these
abbrev pub IsOneOf : ℕ → List PendingRow → Row → Type 0
IsOneOf p rows row = (i : ℕ) × (t : PendingRow) × (slice_get rows i ≡ Some t) × (row ≡ row_for p t)

told_there : (old new : ManagerState) (round p : ℕ) (row : PendingRow) (note : Note) → IsTold old round p row (Ok note) new → HasRow new.rows (row_for p row)
told_there old new round p row (Noted raised) t = subst (λ rows. HasRow rows (row_for p row)) (sym t.answers.1.1) (inserted old.rows (row_for p row))
told_there old new round p row Known t = subst (λ rows. HasRow rows (row_for p row)) (sym t.answers.1.3) t.answers.1.2

told_same : (old new : ManagerState) (note : Note) (rows : Rows) (state : List ℕ) → new ≡ after_note old note rows state → new ≡ record old { rows = new.rows; recovery = new.recovery; version = new.version }
told_same old new (Noted true) rows state is = is ∙ ap (λ (k : ManagerState). record old { rows = k.rows; recovery = k.recovery; version = k.version }) (sym is)
told_same old new (Noted false) rows state is = is ∙ ap (λ (k : ManagerState). record old { rows = k.rows; recovery = k.recovery; version = k.version }) (sym is)
told_same old new Known rows state is = is ∙ ap (λ (k : ManagerState). record old { rows = k.rows; recovery = k.recovery; version = k.version }) (sym is)

rows_same : (m : ManagerState) → IsManager m → IsToldRows m m
rows_same m sound = record { sound = sound; size = refl; others = refl }

rows_then : (old mid new : ManagerState) → IsToldRows old mid → IsToldRows mid new → IsToldRows old new
rows_then old mid new a b = record {
  sound = b.sound;
  size = b.size ∙ a.size;
  others = b.others ∙ ap (λ (k : ManagerState). record k { rows = new.rows; recovery = new.recovery; version = new.version }) a.others;
}

-- what comes of rows that are told
pub record AreAdded (old : ManagerState) (p : ℕ) (rows : List PendingRow) (new : ManagerState) : Type 0 where
  pub told : IsToldRows old new
  pub only : (row : Row) → HasRow new.rows row → HasRow old.rows row ⊎ IsOneOf p rows row
  pub kept : (row : Row) → HasRow old.rows row → HasRow new.rows row
  pub all : (i : ℕ) (t : PendingRow) → slice_get rows i ≡ Some t → HasRow new.rows (row_for p t)

-- one row, and then the others
added_first : (old mid new : ManagerState) (p : ℕ) (row : PendingRow) (rows : List PendingRow) → IsToldRows old mid → HasRow mid.rows (row_for p row) → ((r : Row) → HasRow mid.rows r → HasRow old.rows r ⊎ (r ≡ row_for p row)) → ((r : Row) → HasRow old.rows r → HasRow mid.rows r) → AreAdded mid p rows new
    → AreAdded old p (row ∷ rows) new
added_first old mid new p row rows first there only kept rest = record {
  told = rows_then old mid new first rest.told;
  only = λ r has. elim (rest.only r has) [
    | inl old_row ↦ elim (only r old_row) [ inl was ↦ inl was | inr is ↦ inr (0, row, refl, is) ]
    | inr later ↦ inr (suc later.0, later.1, later.2, later.3)
  ];
  kept = λ r has. rest.kept r (kept r has);
  all = at;
}
  where
    at : (i : ℕ) (t : PendingRow) → slice_get (row ∷ rows) i ≡ Some t → HasRow new.rows (row_for p t)
    at zero t is = subst (λ (x : PendingRow). HasRow new.rows (row_for p x)) (once row t is) (rest.kept (row_for p row) there)
    at (suc i) t is = rest.all i t is

pub are_added : (old : ManagerState) (round p : ℕ) (rows : List PendingRow) (new : ManagerState) → IsManager old → AreTold old round p rows new → AreAdded old p rows new
are_added old round p [] new sound same = subst (AreAdded old p []) (sym same) (record { told = rows_same old sound; only = λ row has. inl has; kept = λ row has. has; all = λ i t at. absurd (none_in i t at) })
are_added old round p (row ∷ rows) new sound told =
    let mid = told.0 in let one = told.2 in
    added_first old mid new p row rows (record { sound = one.keeps.sound; size = sym one.keeps.below.same_places; others = told_same old mid told.1 mid.rows mid.recovery one.answers.3 })
    (told_there old mid round p row told.1 one) (told_rows old mid round p row told.1 one) (told_kept old mid round p row told.1 one) (are_added mid round p rows new one.keeps.sound told.3)

pub row_pid : (p : ℕ) (t : PendingRow) → (row_for p t).pid ≡ p
row_pid p t = by t.ckpt refl
  where
    by : (b : Bool) → t.ckpt ≡ b → (row_for p t).pid ≡ p
    by true e = rw e refl
    by false e = rw e refl
