-- Receipts that are kept as they were read.
use Rattle.std.specs.Prelude.{◌≡◌, ℕ, ◌≤◌}
use Rattle.om_stable.specs.Content.{Records, between, rows_of}
use Rattle.om_tables.specs.declared.caching_ledger.Cache.{Cache}
use Rattle.om_tables.specs.declared.caching_ledger.Cache.TheVariants.{Empty, Holds, Spent}

-- what is kept is what stands among these records within its bounds
abbrev pub IsOf : Records → Cache → Type 0
IsOf held Empty = Unit
IsOf held (Holds cached) = rows_of cached.rows.items ≡ between held cached.after cached.to
IsOf held Spent = Unit

-- the receipts above after and at or below to are kept
abbrev pub Covers : Cache → ℕ → ℕ → Type 0
Covers Empty after to = ⊥
Covers (Holds cached) after to = (cached.after ≡ after) × (to ≤ cached.to)
Covers Spent after to = ⊥
