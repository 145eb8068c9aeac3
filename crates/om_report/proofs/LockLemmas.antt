-- What a process does with the board under its lock.
use Rattle.std.proofs.Common.{◌≡◌, ℕ, All, List, false, refl, slice_index_or, true}
use Rattle.std.specs.Prelude.{if◌then◌else◌}
use Rattle.std.proofs.lemmas.List.Elements.{All-map}
use Rattle.om_process.specs.declared.row.PendingRow.{PendingRow}
use Rattle.om_recover.specs.Records.{checkpoint_of, log_of}
use Rattle.om_recover.specs.declared.row.Row.{Row}
use Rattle.om_member.specs.Told.{row_for, rows_for}

-- rows of a process, as the manager is told them, are of the process
pub rows_of_own : (p : ℕ) (rows : List PendingRow) → All (λ (row : Row). row.pid ≡ p) (rows_for p rows)
rows_of_own p rows = All-map (λ (row : Row). row.pid ≡ p) (row_for p) rows (λ k d within. own_pid (slice_index_or rows k d))
  where
    own_pid : (row : PendingRow) → (row_for p row).pid ≡ p
    own_pid row = elim row.ckpt as (λ b. (if b then checkpoint_of p row.x row.vec row.got else log_of p row.x row.vec row.got).pid ≡ p) [ true ↦ refl | false ↦ refl ]
