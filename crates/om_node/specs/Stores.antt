-- What is known of the stores of a kind.
use Rattle.std.specs.Prelude.{Bool, IsTrue}

-- no store of a kind is clean, so nothing is said of what one holds
abbrev pub AreNeverClean : {S : Type 0} → (S → Bool) → Type 0
AreNeverClean is_clean = (store : _) → IsTrue (is_clean store) → ⊥
