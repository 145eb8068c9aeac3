use Rattle.std.specs.Prelude.{ℕ}
use Rattle.atomic_table.specs.Seated.{TableId}

-- which cell a frontier has, and of how many processes its fronts are
pub record CellName : Type 0 where
  pub table : TableId
  pub n : ℕ
