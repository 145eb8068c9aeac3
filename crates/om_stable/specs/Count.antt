-- A store's count of failures.
use Rattle.std.specs.Prelude.{◌≡◌, ℕ, ◌<◌, ◌⊎◌}
use Rattle.om_stable.specs.declared.stable.TheConstants.{LAST_COUNT}

-- the count rose, or stays at its last value, which is taken as risen
abbrev pub Rose : ℕ → ℕ → Type 0
Rose old new = (old < new) ⊎ ((old ≡ LAST_COUNT) × (new ≡ old))
