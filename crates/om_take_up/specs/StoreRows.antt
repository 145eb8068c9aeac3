-- What a manager has that starts over the stores of a cluster.
use Rattle.std.specs.Prelude.{◌≡◌, ◌⊎◌, ℕ, ◌<◌, List, replicate, slice_get, Some}
use Rattle.om_look.specs.Rows.{AreRowsOf}
use Rattle.om_member.specs.Told.{row_for}
use Rattle.om_process.specs.declared.row.PendingRow.{PendingRow}
use Rattle.om_recover.specs.Records.{checkpoint_of}
use Rattle.om_recover.specs.Rows.{HasRow, Rows}
use Rattle.om_recover.specs.declared.row.Row.{Row}
use Rattle.om_stable.specs.Content.{Content}

-- checkpoint 0 of process p of n, which each manager has from the start
abbrev pub first_row : ℕ → ℕ → Row
first_row n p = checkpoint_of p 0 (replicate n 0) (replicate n 0)

-- a row of a manager stands for a record of its process's store, or is checkpoint 0
abbrev pub IsToldOf : ℕ → (ℕ → List PendingRow) → Row → Type 0
IsToldOf n told row =
    (row.pid < n) × ((row ≡ first_row n row.pid)
    ⊎ ((i : ℕ) × (t : PendingRow) × (slice_get (told row.pid) i ≡ Some t) × (row ≡ row_for row.pid t)))

-- a manager that starts has just the rows that the records of all n stores stand for, and checkpoint 0 of each process
pub record HasRowsOf (n : ℕ) (held : ℕ → Content) (rows : Rows) : Type 0 where
  pub told : ℕ → List PendingRow
  pub of_store : (p : ℕ) → p < n → AreRowsOf p n (held p) (told p)
  pub only : (row : Row) → HasRow rows row → IsToldOf n told row
  pub all : (p i : ℕ) (t : PendingRow) → p < n → slice_get (told p) i ≡ Some t → HasRow rows (row_for p t)
