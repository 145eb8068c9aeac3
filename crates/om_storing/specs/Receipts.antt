-- What is stored after a receipt, by its number.
use Rattle.std.specs.Prelude.{◌≡◌, ℕ, Bool, true, false, ◌%◌, ◌==◌, ◌&&◌, ◌||◌, not}
use Rattle.om_process.specs.Core.{CoreState}
use Rattle.om_node.specs.Storing.{HasStored}
use Rattle.om_storing.specs.declared.storing.TheConstants.{ALL_RECEIPTS}

-- whether x receipts are a multiple of k; none are of 0
abbrev pub is_multiple_of : ℕ → ℕ → Bool
is_multiple_of x k = not (k == 0) && (x % k == 0)

-- what is stored after receipt x: the log with each so many receipts, and a checkpoint with each so many; where a run may take the
-- store up, the log goes with each checkpoint
pub record HasStoredBy (x flush checkpoint : ℕ) (kept : Bool) (old new : CoreState) : Type 0 where
  pub log : (is_multiple_of x flush || (kept && is_multiple_of x checkpoint)) ≡ true
      → HasStored ALL_RECEIPTS (is_multiple_of x checkpoint) old new
  pub checkpoint_alone : (is_multiple_of x flush || kept) ≡ false → is_multiple_of x checkpoint ≡ true → HasStored 0 true old new
  pub neither : (is_multiple_of x flush || is_multiple_of x checkpoint) ≡ false → new ≡ old
