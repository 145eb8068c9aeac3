use Rattle.std.specs.Prelude.{◌≡◌, ℕ, ◌≤◌, List, length, slice_index}

-- at least one and at most `limit` of the places are in use, and those behind them are zero
pub record AreInUse (limit count : ℕ) (places : List ℕ) : Type 0 where
  pub some : 1 ≤ count
  pub within : count ≤ limit
  pub whole : length places ≡ limit
  pub zeros_behind : (place : ℕ) → count ≤ place → slice_index places place ≡ 0
