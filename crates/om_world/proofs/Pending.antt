-- Where no row is pending, nothing was stored and nothing is told.
use Rattle.std.proofs.Common.{◌≡◌, ℕ, zero, suc, List, [], ◌∷◌, ◌++◌, length, take, map, Option, Some, None, Bool, true, false, refl, sym, ap, ◌∙◌, arith}
use Rattle.std.proofs.lemmas.Bool.Decides.{nat_tests}
use Rattle.std.specs.Prelude.{◌==◌, not}
use Rattle.std.specs.List.{AllZip}
use Rattle.om_format.specs.Receipts.{SpellsReceipt}
use Rattle.om_stable.specs.Content.{Content, with_receipts}
use Rattle.om_process.specs.declared.row.PendingRow.{PendingRow}
use Rattle.om_process.specs.Core.{CoreState, LoggedRecord}
use Rattle.om_process.specs.Stores.{checkpoint_row, first_logged, log_row}
use Rattle.om_member.specs.declared.batch.Batch.{Batch}
use Rattle.om_member.specs.declared.batch.Batch.TheVariants as batches
use Rattle.om_manager.specs.State.{ManagerState}
use Rattle.om_world.specs.Changes.{HasGained, has_rows, has_stored, stored}
use Rattle.om_world.specs.World.{SinceState}
use Rattle.om_world.specs.steps.Moves.{AreTold, rows_of}
use Rattle.om_world.proofs.Between.{stored_apart}

-- ---- as the process is asked
counted : (n : ℕ) → n ≡ 0 → (n == 0) ≡ true
counted n is = grind (arith, nat_tests)

rows_counted : (rows : List PendingRow) → has_rows rows ≡ not (length rows == 0)
rows_counted [] = sym (ap not (counted 0 refl))
rows_counted (r ∷ rows) = let some : (length (r ∷ rows) == 0) ≡ false = grind (arith, nat_tests) in sym (ap not some)

pub rows_there : (o : Option CoreState) (c : CoreState) → o ≡ Some c → rows_of o ≡ not (length c.pending == 0)
rows_there o c e = ap rows_of e ∙ rows_counted c.pending

pub no_rows_there : (o : Option CoreState) → o ≡ None → rows_of o ≡ false
no_rows_there o e = ap rows_of e

-- ---- what is kept of it
pub stored_if : (b : Bool) (since : SinceState) → b ≡ true → (has_stored b since).stored ≡ true
stored_if true since e = refl
stored_if false since e = absurd (stored_apart false e refl)

pub not_so : (b s : Bool) → (b ≡ true → s ≡ true) → s ≡ false → b ≡ false
not_so true s f e = absurd (stored_apart s (f refl) e)
not_so false s f e = refl

-- ---- the store
-- no receipt was spelled
nothing_spelled : (rows : List PendingRow) (log : List LoggedRecord) (bytes : List (List ℕ)) (first : ℕ) (a b : Content) → has_rows (rows ++ map log_row log) ≡ false → AllZip (λ l s. SpellsReceipt l.receipt s) log bytes → b ≡ with_receipts a first bytes → b ≡ a
nothing_spelled [] [] [] first a b none z is = is
nothing_spelled [] [] (x ∷ bytes) first a b none z is = absurd z
nothing_spelled [] (l ∷ log) bytes first a b none z is = absurd (stored_apart true refl none)
nothing_spelled (r ∷ rows) log bytes first a b none z is = absurd (stored_apart true refl none)

spelled : (rows : List PendingRow) (row : PendingRow) → has_rows (rows ++ row ∷ []) ≡ true
spelled [] row = refl
spelled (r ∷ rows) row = refl

-- it gains nothing
pub gained_nothing : (kind : Batch) (c : CoreState) (a b : Content) → has_rows (stored kind c).pending ≡ false → HasGained kind c a b → b ≡ a
gained_nothing batches.Log c a b none g = nothing_spelled c.pending c.log g.0 (first_logged c) a b none g.1 g.2
gained_nothing (batches.First k) c a b none g = nothing_spelled c.pending (take k c.log) g.0 (first_logged c) a b none g.1 g.2
gained_nothing batches.Checkpoint c a b none g = absurd (stored_apart (has_rows (stored batches.Checkpoint c).pending) (spelled c.pending (checkpoint_row c)) none)

-- ---- the manager
pub same_manager : (rows : List PendingRow) (count round p : ℕ) (old new : ManagerState) → has_rows rows ≡ false → AreTold old round p (take count rows) new → new ≡ old
same_manager [] zero round p old new none same = same
same_manager [] (suc k) round p old new none same = same
same_manager (r ∷ rows) count round p old new none told = absurd (stored_apart true refl none)
