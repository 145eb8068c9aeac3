-- Rows of one store after another that a manager is told.
use Rattle.std.proofs.Common.{◌≡◌, ◌≢◌, inl, inr, ℕ, ◌+◌, ◌<◌, List, [], Bool, true, false, refl, sym, ap, ◌∙◌, subst, arith}
use Rattle.std.specs.Prelude.{if◌then◌else◌, nat_eq, slice_get}
use Rattle.std.proofs.lemmas.Bool.Decides.{nat_tests}
use Rattle.om_look.specs.Rows.{AreRowsOf}
use Rattle.om_member.specs.Told.{row_for}
use Rattle.om_process.specs.declared.row.PendingRow.{PendingRow}
use Rattle.om_recover.specs.Rows.{HasRow, Rows}
use Rattle.om_recover.specs.declared.row.Row.{Row}
use Rattle.om_stable.specs.Content.{Content}
use Rattle.om_manager.specs.State.{ManagerState}
use Rattle.om_take_up.specs.StoreRows.{HasRowsOf, first_row}
use Rattle.om_take_up.proofs.RowsLemmas.{AreAdded, row_pid}
use Rattle.om_world.specs.steps.Restarting.{HasRowsUpTo}
use Rattle.om_world.proofs.Lists.{either}

-- ---- stores in order
pub no_rows : (n : ℕ) (held : ℕ → Content) (rows : Rows) → ((row : Row) → HasRow rows row → (row.pid < n) × (row ≡ first_row n row.pid)) → HasRowsUpTo 0 n held rows
no_rows n held rows fresh = record { told = λ p. []; of_store = λ p lt. absurd (omega arith); only = λ row has. let f = fresh row has in (f.0, inl f.1); all = λ p i t lt. absurd (omega arith) }

-- the rows of one process, and of the others those before
abbrev with_rows : (ℕ → List PendingRow) → ℕ → List PendingRow → ℕ → List PendingRow
with_rows told p rows q = if nat_eq q p then rows else told q

with_here : (told : ℕ → List PendingRow) (p q : ℕ) (rows : List PendingRow) → q ≡ p → with_rows told p rows q ≡ rows
with_here told p q rows is = by (nat_eq q p) refl
  where
    by : (b : Bool) → nat_eq q p ≡ b → with_rows told p rows q ≡ rows
    by true e = rw e refl
    by false e = absurd (grind (arith, nat_tests))

with_other : (told : ℕ → List PendingRow) (p q : ℕ) (rows : List PendingRow) → q ≢ p → with_rows told p rows q ≡ told q
with_other told p q rows other = by (nat_eq q p) refl
  where
    by : (b : Bool) → nat_eq q p ≡ b → with_rows told p rows q ≡ told q
    by true e = absurd (other (grind (arith, nat_tests)))
    by false e = rw e refl

pub one_store : (n p : ℕ) (held : ℕ → Content) (old new : ManagerState) (rows : List PendingRow) → p < n → HasRowsUpTo p n held old.rows → AreRowsOf p n (held p) rows → AreAdded old p rows new → HasRowsUpTo (p + 1) n held new.rows
one_store n p held old new rows small u a d = record {
  told = told;
  of_store = λ q lt. elim (either q p) [
    | inl is ↦ subst (λ o. AreRowsOf o n (held o) (told q)) (sym is) (subst (AreRowsOf p n (held p)) (sym (with_here u.told p q rows is)) a)
    | inr other ↦ subst (AreRowsOf q n (held q)) (sym (with_other u.told p q rows other)) (u.of_store q (omega arith))
  ];
  only = λ row has. elim (d.only row has) [
    | inl old_row ↦
        let was = u.only row old_row in (
          was.0,
          elim was.1 [
            | inl first ↦ inl first
            | inr one ↦
                let same : told row.pid ≡ u.told row.pid = with_other u.told p row.pid rows (λ is. absurd (let lt = one.0 in omega arith)) in
                inr (let lt = one.0 in omega arith, (one.1.0, one.1.1, ap (λ l. slice_get l one.1.0) same ∙ one.1.2, one.1.3))
          ],
        )
    | inr one ↦
        let pid : row.pid ≡ p = ap (λ (r : Row). r.pid) one.3 ∙ row_pid p one.1 in (
          omega arith,
          inr (omega arith, (one.0, one.1, ap (λ l. slice_get l one.0) (with_here u.told p row.pid rows pid) ∙ one.2, one.3 ∙ ap (λ o. row_for o one.1) (sym pid))),
        )
  ];
  all = λ q i t lt at. elim (either q p) [
    | inl is ↦ subst (λ o. HasRow new.rows (row_for o t)) (sym is) (d.all i t (ap (λ l. slice_get l i) (sym (with_here u.told p q rows is)) ∙ at))
    | inr other ↦ d.kept (row_for q t) (u.all q i t (omega arith) (ap (λ l. slice_get l i) (sym (with_other u.told p q rows other)) ∙ at))
  ];
}
  where
    told : ℕ → List PendingRow
    told = with_rows u.told p rows

pub all_stores : (n : ℕ) (held : ℕ → Content) (rows : Rows) → HasRowsUpTo n n held rows → HasRowsOf n held rows
all_stores n held rows u = record {
  told = u.told;
  of_store = u.of_store;
  only = λ row has. let o = u.only row has in (o.0, elim o.1 [ inl first ↦ inl first | inr one ↦ inr one.1 ]);
  all = u.all;
}

pub same_rows : (n : ℕ) (held other : ℕ → Content) (rows : Rows) → ((p : ℕ) → held p ≡ other p) → HasRowsOf n held rows → HasRowsOf n other rows
same_rows n held other rows same has = record {
  told = has.told;
  of_store = λ p lt. subst (λ c. AreRowsOf p n c (has.told p)) (same p) (has.of_store p lt);
  only = has.only;
  all = has.all;
}
