use Rattle.std.specs.Prelude.{ℕ, List}

-- one climb: the interval of a process at which it starts, the state from which it climbs, and the intervals whose
-- vectors it read, the newest first
pub record Attempt : Type 0 where
  pub pid : ℕ
  pub interval : ℕ
  pub state : List ℕ
  pub looks : List (ℕ × ℕ)
