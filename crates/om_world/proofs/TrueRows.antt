-- What a manager is told of true records.
use Rattle.std.proofs.Common.{◌≡◌, inl, inr, ℕ, List, [], length, refl, sym, subst, arith, Bool, true, false}
use Rattle.om_member.specs.Told.{row_for}
use Rattle.om_process.specs.Claims.{AtInterval, RowOf}
use Rattle.om_process.specs.Process.{Program, started}
use Rattle.om_process.specs.declared.row.PendingRow.{PendingRow}
use Rattle.om_process.proofs.Vectors.{row_along}
use Rattle.om_recover.specs.Rows.{HasRow, Rows}
use Rattle.om_recover.specs.declared.row.Row.{Row}
use Rattle.om_stable.specs.Content.{Content}
use Rattle.om_world.specs.Live.{program_at, received}
use Rattle.om_world.specs.declared.entry.Entry.{Entry}
use Rattle.om_world.specs.Disk.{AreTrue}
use Rattle.om_take_up.specs.StoreRows.{HasRowsOf, first_row}
use Rattle.om_world.proofs.StoredRows.{IsTrueRow, store_true}

-- what is true of a row, as a manager has it
abbrev pub IsTrueOf : List Program → List Entry → Row → Type 0
IsTrueOf programs live row = AtInterval (received row.pid live) row.interval (RowOf row.pid (length programs) row.vec row.got)

-- checkpoint 0 is true of each run
pub first_true : (programs : List Program) (live : List Entry) (p : ℕ) → IsTrueOf programs live (first_row (length programs) p)
first_true programs live p =
    let n : ℕ = length programs in
    let program : Program = program_at programs p in (
      omega arith,
      row_along program p n [] (started program n) (0, (started program n, refl, refl)),
    )

-- a row of a process, as its manager has it
pub for_true : (programs : List Program) (live : List Entry) (p : ℕ) (t : PendingRow) → IsTrueRow p (length programs) (received p live) t → IsTrueOf programs live (row_for p t)
for_true programs live p t old = go t.ckpt refl
  where
    go : (b : Bool) → t.ckpt ≡ b → IsTrueOf programs live (row_for p t)
    go true is = rw is old
    go false is = rw is old

pub rows_are_true : (programs : List Program) (live : List Entry) (held : ℕ → Content) (rows : Rows) (row : Row)
    → AreTrue programs live held → HasRowsOf (length programs) held rows → HasRow rows row → IsTrueOf programs live row
rows_are_true programs live held rows row disk has there =
    let n : ℕ = length programs in
    let p : ℕ = row.pid in
    let told = has.only row there in
    elim told.1 [
      | inl first ↦ subst (IsTrueOf programs live) (sym first) (first_true programs live p)
      | inr one ↦ subst (IsTrueOf programs live) (sym one.3) (for_true programs live p one.1
          (store_true (program_at programs p) p n (received p live) (held p) (has.told p) (λ x c at. disk.checkpoints p x c told.0 at) (λ x r begun at. disk.receipts p x r told.0 begun at)
          (has.of_store p told.0) one.0 one.1 one.2))
    ]
