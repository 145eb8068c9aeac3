-- What is stored after a receipt.
use Rattle.std.proofs.Common.{◌≡◌, ℕ, Bool, true, false, subst}
use Rattle.std.specs.Prelude.{◌&&◌, ◌||◌}
use Rattle.om_process.specs.Core.{CoreState}
use Rattle.om_storing.specs.declared.storing.TheConstants.{ALL_RECEIPTS}
use Rattle.om_node.specs.Storing.{HasStored}
use Rattle.om_storing.specs.Receipts.{HasStoredBy, is_multiple_of}

-- where the log is due, something is
not_alone : (f k c : Bool) → (f || (k && c)) ≡ true → (f || k) ≡ false → ⊥
not_alone true k c due none = cc
not_alone false true c due none = cc
not_alone false false c due none = cc

not_neither : (f k c : Bool) → (f || (k && c)) ≡ true → (f || c) ≡ false → ⊥
not_neither true k c due none = cc
not_neither false true c due none = cc
not_neither false false c due none = cc

pub stored_log : (x flush every : ℕ) (kept c : Bool) (old new : CoreState) → c ≡ is_multiple_of x every
    → (is_multiple_of x flush || (kept && is_multiple_of x every)) ≡ true → HasStored ALL_RECEIPTS c old new → HasStoredBy x flush every kept old new
stored_log x flush every kept c old new is due stored = record {
  log = λ again. subst (λ b. HasStored ALL_RECEIPTS b old new) is stored;
  checkpoint_alone = λ none alone. absurd (not_alone (is_multiple_of x flush) kept (is_multiple_of x every) due none);
  neither = λ none. absurd (not_neither (is_multiple_of x flush) kept (is_multiple_of x every) due none);
}
